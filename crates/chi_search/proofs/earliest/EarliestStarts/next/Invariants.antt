-- the operations before the place start too late
use Rattle.std.proofs.Common.{ℕ, ◌-◌, ◌<◌, ◌≤◌, length}
use Rattle.chi_trace.specs.Explains.{at}
use Rattle.chi_search.proofs.earliest.EarliestStarts.next.Given as goal

abbrev pub invariant-loop-next : goal.invariant-loop-next
invariant-loop-next l = record {
  from : l.place ≤ l.next;
  within : l.next ≤ length l.ops;
  late : (i : ℕ) → l.place ≤ i → i < l.next → l.time < (at l.ops i).start;
}

abbrev pub decreases-loop-next : goal.decreases-loop-next
decreases-loop-next l = length l.ops - l.next
