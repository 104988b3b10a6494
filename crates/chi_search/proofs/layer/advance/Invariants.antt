-- what the states lead to stays the same, and what the budget lost was looked at
use Rattle.std.proofs.Common.{ℕ, ◌+◌, ◌-◌, ◌≤◌, ◌↔◌, List, ◌++◌, length}
use Rattle.chi_trace.specs.declared.operation.Operation.{Operation}
use Rattle.chi_search.specs.Layers.{AreReady, AreWaiting, EitherEnds, MayFollow, SomeEnds}
use Rattle.chi_search.specs.Looks.{LookedMore}
use Rattle.chi_search.specs.Paths.{AreBothReached}
use Rattle.chi_search.specs.StateSets.{positions}
use Rattle.chi_search.proofs.layer.advance.Given as goal

abbrev pub invariant-loop-problem : goal.invariant-loop-problem
invariant-loop-problem g l = record {
  ends : (more : List Operation) → MayFollow l.ops l.horizon more → (v : ℕ) → EitherEnds (l.ops ++ more) l.layer l.waiting v ↔ SomeEnds (l.ops ++ more) l.fn.from v;
  ready : AreReady l.ops l.layer;
  waiting : AreWaiting l.ops l.horizon l.waiting;
  reached : AreBothReached l.ops l.fn.from l.layer l.waiting;
  most : length (positions l.waiting) ≤ l.most;
  count : length (positions l.waiting) + l.budget ≤ l.initial.budget;
  looked : LookedMore g.P.Progress.looked l.initial.progress l.progress (l.initial.budget - l.budget);
}

abbrev pub decreases-loop-problem : goal.decreases-loop-problem
decreases-loop-problem g l = l.budget
