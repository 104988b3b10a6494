-- the packets agree in each lane so far
use Rattle.std.proofs.Common.{◌≡◌, ℕ, ◌<◌, slice_index}
use Rattle.std.specs.Int.{bit_at}
use Rattle.chi_search.proofs.commuting.agree.Given as goal

abbrev pub invariant-loop-lane : goal.invariant-loop-lane
invariant-loop-lane l =
    (k : ℕ) → k < l.lane → bit_at l.access.enables k ≡ 1 → bit_at l.other.enables k ≡ 1 → slice_index l.access.lanes k ≡ slice_index l.other.lanes k
