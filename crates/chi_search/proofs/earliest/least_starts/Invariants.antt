-- the times from this place on
use Rattle.std.proofs.Common.{◌≡◌, ℕ, ◌<◌, ◌≤◌, length, get_or}
use Rattle.chi_trace.specs.Explains.{at}
use Rattle.chi_search.proofs.earliest.least_starts.Given as goal

abbrev pub invariant-loop-place : goal.invariant-loop-place
invariant-loop-place l = record {
  within : l.place ≤ length l.ops;
  long : length l.times.items ≡ length l.ops;
  least : (j : ℕ) → l.place ≤ j → j < length l.ops → l.least ≤ (at l.ops j).start;
  early : (i j : ℕ) → l.place ≤ i → i ≤ j → j < length l.ops → get_or l.times.items i 0 ≤ (at l.ops j).start;
}

-- proposed from the loop's first test
abbrev pub decreases-loop-place : goal.decreases-loop-place
decreases-loop-place l = l.place
