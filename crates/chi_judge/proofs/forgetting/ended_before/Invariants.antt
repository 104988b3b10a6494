-- so many were looked at, and ended before the time
use Rattle.std.proofs.Common.{◌≡◌, ◌<◌, All, take}
use Rattle.chi_judge.proofs.forgetting.ended_before.Given as goal

abbrev pub invariant-loop-op : goal.invariant-loop-op
invariant-loop-op l = record {
  count_is : l.count ≡ l.op-index;
  before : All (λ op. op.end < l.time) (take l.op-index l.ops);
}
