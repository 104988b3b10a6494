-- the search follows the operations so far, and the others may still be told
use Rattle.std.proofs.Common.{◌≡◌, ◌≤◌, ◌++◌, ℕ, List, All, take}
use Rattle.chi_search.specs.Frontiers.{Follows, GoesAlong, MayBeTold}
use Rattle.chi_trace.specs.declared.operation.Operation.{Operation}
use Rattle.chi_judge.proofs.search.told_after.Given as goal

abbrev pub invariant-loop-op : goal.invariant-loop-op
invariant-loop-op l = record {
  follows : (words : List ℕ) (told : List Operation) → Follows words told l.before → Follows words (told ++ take l.op-index l.more) l.after;
  along : (words : List ℕ) (told : List Operation) → GoesAlong words told l.before → GoesAlong words (told ++ take l.op-index l.more) l.after;
  operations : l.after.operations ≡ l.before.operations ++ take l.op-index l.more;
  next : (rest : List Operation) → MayBeTold l.before (take l.op-index l.more ++ rest) → MayBeTold l.after rest;
  horizon : l.after.horizon ≡ l.before.horizon;
  latest : (time : ℕ) → l.before.latest ≤ time → All (λ op. op.end ≤ time) (take l.op-index l.more) → l.after.latest ≤ time;
}
