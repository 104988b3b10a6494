-- the places from this one on
use Rattle.std.proofs.Common.{◌≡◌, ℕ, ◌-◌, ◌<◌, ◌≤◌, length, get_or}
use Rattle.chi_trace.specs.Explains.{at}
use Rattle.chi_search.proofs.earliest.lower_starts.Given as goal

abbrev pub invariant-loop-place : goal.invariant-loop-place
invariant-loop-place l = record {
  place_within : l.place ≤ length l.ops;
  each : length l.lower.items ≡ length l.ops;
  later : (i : ℕ) → l.place ≤ i → i < length l.ops → i < get_or l.lower.items i 0;
  within : (i : ℕ) → l.place ≤ i → i < length l.ops → get_or l.lower.items i 0 ≤ length l.ops;
  between : (i j : ℕ) → l.place ≤ i → i < length l.ops → i ≤ j → j < get_or l.lower.items i 0 → (at l.ops i).start ≤ (at l.ops j).start;
}

abbrev pub decreases-loop-place : goal.decreases-loop-place
decreases-loop-place l = l.place

abbrev pub invariant-loop-candidate : goal.invariant-loop-candidate
invariant-loop-candidate l = record {
  past : l.place < l.candidate;
  candidate_within : l.candidate ≤ length l.ops;
  none : (j : ℕ) → l.place ≤ j → j < l.candidate → l.start ≤ (at l.ops j).start;
}

abbrev pub decreases-loop-candidate : goal.decreases-loop-candidate
decreases-loop-candidate l = length l.ops - l.candidate
