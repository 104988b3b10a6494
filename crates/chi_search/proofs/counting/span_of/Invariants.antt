-- how far the sums before a place can go
use Rattle.std.proofs.Common.{◌-◌, ◌<◌, ◌≤◌, length}
use Rattle.chi_trace.specs.Explains.{at}
use Rattle.chi_search.specs.Counters.{IsSpan}
use Rattle.chi_search.specs.Positions.{position_of}
use Rattle.chi_search.proofs.counting.span_of.Given as goal

abbrev pub invariant-loop-place : goal.invariant-loop-place
invariant-loop-place l = record {
  within : l.place ≤ length l.ops;
  starts : l.place < length l.ops → (at l.ops l.place).start ≤ l.until;
  span : IsSpan l.ops (position_of l.state) l.until l.counter l.bits l.place l.span;
}

abbrev pub decreases-loop-place : goal.decreases-loop-place
decreases-loop-place l = length l.ops - l.place
