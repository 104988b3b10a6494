-- none of the first was taken earlier
use Rattle.std.proofs.Common.{◌≤◌, All, take}
use Rattle.chi_events.specs.declared.starts.Start.{Start}
use Rattle.chi_events.proofs.starts.least_time.Given as goal

abbrev pub invariant-loop-start : goal.invariant-loop-start
invariant-loop-start l = record {
  time : l.least ≤ l.time;
  starts : All (λ (start : Start). l.least ≤ start.time) (take l.start-index l.starts);
}
