-- the path leads from the first state to the state, which is ready, the states of the set are dead, operations before `tried` were tried, the parts are parts, and what the budget lost was looked at
use Rattle.std.proofs.Common.{◌+◌, ◌-◌, ◌*◌, ◌≤◌, All, length}
use Rattle.chi_search.specs.Looks.{LookedMore}
use Rattle.chi_search.specs.Parts.{IsPartOf}
use Rattle.chi_search.specs.Paths.{AllDead, AreTried, AreTriedBefore, Walks}
use Rattle.chi_search.specs.Positions.{IsReady, position_of}
use Rattle.chi_search.proofs.searching.search.Given as goal

abbrev pub invariant-loop-budget : goal.invariant-loop-budget
invariant-loop-budget g l = record {
  walks : Walks l.problem.ops.now (position_of l.from) l.path.items (position_of l.state);
  ready : IsReady (length l.problem.ops.now) (position_of l.state);
  dead : AllDead l.problem.ops.now l.problem.final_word l.dead;
  tried : AreTried l.problem.ops.now l.problem.final_word (position_of l.state) l.tried;
  before : AreTriedBefore l.problem.ops.now l.problem.final_word l.path.items;
  parts : All (IsPartOf l.problem.ops.now l.problem.final_word) l.parts;
  left : l.budget ≤ l.initial.budget;
  looked : LookedMore g.P.Progress.looked l.initial.progress l.progress (l.initial.budget - l.budget);
}

abbrev pub decreases-loop-budget : goal.decreases-loop-budget
decreases-loop-budget g l = 2 * l.budget + length l.path.items
