-- the words that can follow from the states so far, and from those that waited before, whatever operations come later
use Rattle.std.proofs.Common.{ℕ, ◌+◌, ◌-◌, ◌<◌, ◌≤◌, ◌⊎◌, ◌↔◌, List, ◌++◌, Some, length, take}
use Rattle.chi_trace.specs.declared.operation.Operation.{Operation}
use Rattle.chi_search.specs.declared.states.States.{States}
use Rattle.chi_search.specs.Layers.{AreReady, AreWaiting, EitherEnds, MayFollow, SomeEnds}
use Rattle.chi_search.specs.Looks.{LookedMore}
use Rattle.chi_search.specs.Moves.{Ends}
use Rattle.chi_search.specs.Paths.{AreBothReached}
use Rattle.chi_search.specs.StateSets.{positions}
use Rattle.chi_search.proofs.Elements.{SomeOf}
use Rattle.chi_search.proofs.layer.next_layer.Given as goal

abbrev pub invariant-loop-place : goal.invariant-loop-place
invariant-loop-place g l = record {
  ends : (more : List Operation) → MayFollow l.problem.ops.now l.horizon more → (v : ℕ)
      → EitherEnds (l.problem.ops.now ++ more) l.states l.waiting v ↔ (SomeOf (Ends (l.problem.ops.now ++ more) (Some v)) (take l.place (positions l.layer)) ⊎ SomeEnds (l.problem.ops.now ++ more) l.initial.waiting v);
  ready : AreReady l.problem.ops.now l.states;
  waiting : AreWaiting l.problem.ops.now l.horizon l.waiting;
  reached : (from : States) → AreBothReached l.problem.ops.now from l.layer l.initial.waiting → AreBothReached l.problem.ops.now from l.states l.waiting;
  most : length (positions l.waiting) ≤ l.most;
  count : length (positions l.waiting) + l.budget ≤ length (positions l.initial.waiting) + l.initial.budget;
  fewer : l.least < l.place → l.budget < l.initial.budget;
  left : l.budget ≤ l.initial.budget;
  looked : LookedMore g.P.Progress.looked l.initial.progress l.progress (l.initial.budget - l.budget);
}
