-- none after the first so many was answered
use Rattle.std.proofs.Common.{◌≡◌, ℕ, ◌<◌, ◌≤◌, false, length}
use Rattle.chi_trace.specs.Explains.{at, is_answered}
use Rattle.chi_judge.proofs.explained.answered_count.Given as goal

abbrev pub invariant-loop-count : goal.invariant-loop-count
invariant-loop-count l = record {
  within : l.count ≤ length l.ops;
  others : (i : ℕ) → l.count ≤ i → i < length l.ops → is_answered (at l.ops i) ≡ false;
}

abbrev pub decreases-loop-count : goal.decreases-loop-count
decreases-loop-count l = l.count
