-- how many so far
use Rattle.std.proofs.Common.{◌≡◌, ◌==◌, count_by}
use Rattle.std.specs.Int.{bit_at}
use Rattle.std.specs.List.{range_with_len}
use Rattle.chi_cover.proofs.operation.enabled_lanes.Given as goal

abbrev pub invariant-loop-place : goal.invariant-loop-place
invariant-loop-place l = l.count ≡ count_by (λ lane. bit_at l.enables lane == 1) (range_with_len l.first l.place)
