-- what was tested of the operations so far
use Rattle.std.proofs.Common.{◌≡◌, ℕ, ◌+◌, ◌^◌, ◌<◌, ◌≤◌}
use Rattle.chi_fields.specs.Access.{IsLawful}
use Rattle.chi_trace.specs.Explains.{at}
use Rattle.chi_trace.proofs.Traced.{AreByStart}
use Rattle.chi_trace.proofs.trace.are_traced.Given as goal

abbrev pub invariant-loop-op : goal.invariant-loop-op
invariant-loop-op l = record {
  none : l.op-index ≡ 0 → l.before ≡ 0;
  last : (j : ℕ) → j + 1 ≡ l.op-index → (at l.ops j).start ≡ l.before;
  upto : (j : ℕ) → j < l.op-index → (at l.ops j).start ≤ l.before;
  sorted : AreByStart l.ops l.op-index;
  lawful : (j : ℕ) → j < l.op-index → IsLawful (at l.ops j).access;
  within : (j : ℕ) → j < l.op-index → (at l.ops j).access.addr + (at l.ops j).access.len ≤ 2 ^ 52;
  lasting : (j : ℕ) → j < l.op-index → (at l.ops j).start ≤ (at l.ops j).end;
}
