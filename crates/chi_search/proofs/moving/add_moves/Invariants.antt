-- the set has grown by the moves of the operations before the place, whatever follows
use Rattle.std.proofs.Common.{◌-◌, List, ◌++◌, length}
use Rattle.chi_trace.specs.declared.operation.Operation.{Operation}
use Rattle.chi_trace.specs.Explains.{at}
use Rattle.chi_search.specs.declared.states.States.{States}
use Rattle.chi_search.specs.Layers.{AreReady, ComeAfter}
use Rattle.chi_search.specs.Paths.{AreReached, IsReached}
use Rattle.chi_search.specs.Positions.{position_of}
use Rattle.chi_search.proofs.Layers.{Grown}
use Rattle.chi_search.proofs.moving.add_moves.Given as goal

abbrev pub invariant-loop-place : goal.invariant-loop-place
invariant-loop-place l = record {
  grown : (more : List Operation) → ComeAfter l.problem.ops.now (at l.problem.ops.now l.state.first).end more → Grown (l.problem.ops.now ++ more) l.initial.states l.states (position_of l.state) l.place;
  ready : AreReady l.problem.ops.now l.initial.states → AreReady l.problem.ops.now l.states;
  reached : (from : States) → IsReached l.problem.ops.now from (position_of l.state) → AreReached l.problem.ops.now from l.initial.states → AreReached l.problem.ops.now from l.states;
}

abbrev pub decreases-loop-place : goal.decreases-loop-place
decreases-loop-place l = length l.problem.ops.now - l.place
