-- the states of the set are dead, the state is ready, operations before `tried` were tried, and what the budget lost was looked at
use Rattle.std.proofs.Common.{◌≡◌, ◌+◌, ◌-◌, ◌*◌, ◌≤◌, All, length}
use Rattle.chi_search.specs.Looks.{LookedMore}
use Rattle.chi_search.specs.Positions.{IsReady, position_of}
use Rattle.chi_search.specs.Within.{AllDeadWithin, AreTriedWithin}
use Rattle.chi_search.proofs.WithinMoves.{IsTriedStep}
use Rattle.chi_search.proofs.part.lacks_order.Given as goal

abbrev pub invariant-loop-budget : goal.invariant-loop-budget
invariant-loop-budget g l = record {
  mask : l.part.mask ≡ l.initial.part.mask;
  dead : AllDeadWithin l.part.mask l.problem.ops.now l.problem.final_word l.part.dead;
  ready : IsReady (length l.problem.ops.now) (position_of l.state);
  tried : AreTriedWithin l.part.mask l.problem.ops.now l.problem.final_word (position_of l.state) l.tried;
  before : All (IsTriedStep l.part.mask l.problem.ops.now l.problem.final_word) l.path.items;
  left : l.budget ≤ l.initial.budget;
  looked : LookedMore g.P.Progress.looked l.initial.progress l.progress (l.initial.budget - l.budget);
}

abbrev pub decreases-loop-budget : goal.decreases-loop-budget
decreases-loop-budget g l = 2 * l.budget + length l.path.items

abbrev pub invariant-loop-step : goal.invariant-loop-step
invariant-loop-step g l = record {
  mask : l.part.mask ≡ l.initial.part.mask;
  dead : l.part.dead ≡ l.initial.part.dead;
}
