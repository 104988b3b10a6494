-- how many so far
use Rattle.std.proofs.Common.{◌≡◌, None, count_by, get_or, slice_index}
use Rattle.std.specs.List.{range_with_len}
use Rattle.chi_cover.specs.Counts.{is_covered}
use Rattle.chi_cover.proofs.covered.Covered.covered.Given as goal

abbrev pub invariant-loop-number : goal.invariant-loop-number
invariant-loop-number l =
    l.covered ≡ count_by (λ n. is_covered (get_or l.goals n None) (slice_index l.self n)) (range_with_len 0 l.number)
