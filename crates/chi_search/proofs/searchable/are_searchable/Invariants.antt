-- what was tested of the operations so far
use Rattle.std.proofs.Common.{◌≡◌, ℕ, ◌+◌, ◌^◌, ◌<◌, ◌≤◌}
use Rattle.chi_trace.specs.Explains.{at}
use Rattle.chi_search.proofs.searchable.are_searchable.Given as goal

abbrev pub invariant-loop-op : goal.invariant-loop-op
invariant-loop-op l = record {
  none : l.op-index ≡ 0 → l.before ≡ 0;
  last : (j : ℕ) → j + 1 ≡ l.op-index → (at l.ops j).end ≡ l.before;
  upto : (j : ℕ) → j < l.op-index → (at l.ops j).end ≤ l.before;
  sorted : (i j : ℕ) → i ≤ j → j < l.op-index → (at l.ops i).end ≤ (at l.ops j).end;
  lasting : (j : ℕ) → j < l.op-index → (at l.ops j).start ≤ (at l.ops j).end;
  within : (j : ℕ) → j < l.op-index → (at l.ops j).access.addr + (at l.ops j).access.len ≤ 2 ^ 52;
}
