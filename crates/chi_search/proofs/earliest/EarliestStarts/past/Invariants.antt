-- the operations from the upper place on start too late
use Rattle.std.proofs.Common.{ℕ, ◌-◌, ◌<◌, ◌≤◌, length}
use Rattle.chi_trace.specs.Explains.{at}
use Rattle.chi_search.proofs.earliest.EarliestStarts.past.Given as goal

abbrev pub invariant-loop-low : goal.invariant-loop-low
invariant-loop-low l = record {
  ordered : l.low ≤ l.high;
  within : l.high ≤ length l.ops;
  late : (i : ℕ) → l.high ≤ i → i < length l.ops → l.time < (at l.ops i).start;
}

abbrev pub decreases-loop-low : goal.decreases-loop-low
decreases-loop-low l = l.high - l.low
