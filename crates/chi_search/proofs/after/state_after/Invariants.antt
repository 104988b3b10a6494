-- What comes from the state in turn comes from the first one after the operations before, and the other way round.
use Rattle.std.proofs.Common.{ℕ, List, ◌++◌, Some, drop, length}
use Rattle.chi_trace.specs.declared.operation.Operation.{Operation}
use Rattle.chi_search.specs.Moves.{Comes, Ends}
use Rattle.chi_search.specs.Positions.{IsReady, Position, position_of}
use Rattle.chi_search.specs.Searchable.{AreSorted}
use Rattle.chi_search.proofs.after.state_after.Given as goal

abbrev pub invariant-loop-place : goal.invariant-loop-place
invariant-loop-place l = record {
  ready : IsReady (length l.ops) (position_of l.state);
  comes : (q : Position) → Comes l.ops (position_of l.state) (drop l.place-index l.order) q → Comes l.ops (position_of l.initial.state) l.order q;
  leads : (q : Position) → Comes l.ops (position_of l.initial.state) l.order q → (r : Position) × Comes l.ops (position_of l.state) (drop l.place-index l.order) r;
  ends : (more : List Operation) → AreSorted (l.ops ++ more) → (v : ℕ) → Ends (l.ops ++ more) (Some v) (position_of l.state)
      → Ends (l.ops ++ more) (Some v) (position_of l.initial.state);
}
