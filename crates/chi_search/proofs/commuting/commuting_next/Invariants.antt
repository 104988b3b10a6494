-- the operation at the place starts in time
use Rattle.std.proofs.Common.{◌-◌, ◌<◌, ◌≤◌, length}
use Rattle.chi_trace.specs.Explains.{at}
use Rattle.chi_search.proofs.commuting.commuting_next.Given as goal

abbrev pub invariant-loop-place : goal.invariant-loop-place
invariant-loop-place l = record {
  stop_within : l.stop < length l.ops;
  starts : l.place < length l.ops → (at l.ops l.place).start ≤ l.end;
}

abbrev pub decreases-loop-place : goal.decreases-loop-place
decreases-loop-place l = length l.ops - l.place
