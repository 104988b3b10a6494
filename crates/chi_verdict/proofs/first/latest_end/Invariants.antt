-- none of the first operations ends later
use Rattle.std.proofs.Common.{◌≤◌, All, take}
use Rattle.chi_trace.specs.declared.operation.Operation.{Operation}
use Rattle.chi_verdict.proofs.first.latest_end.Given as goal

abbrev pub invariant-loop-op : goal.invariant-loop-op
invariant-loop-op l = All (λ (op : Operation). op.end ≤ l.latest) (take l.op-index l.ops)
