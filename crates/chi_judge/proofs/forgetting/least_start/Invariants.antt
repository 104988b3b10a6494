-- no operation that was looked at starts before the least
use Rattle.std.proofs.Common.{◌≤◌, All, take}
use Rattle.chi_judge.proofs.forgetting.least_start.Given as goal

abbrev pub invariant-loop-op : goal.invariant-loop-op
invariant-loop-op l = record {
  by : l.least ≤ l.time;
  each : All (λ op. l.least ≤ op.start) (take l.op-index l.ops);
}
