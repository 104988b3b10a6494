-- what the budget lost was counted
use Rattle.std.proofs.Common.{◌-◌, ◌≤◌}
use Rattle.chi_search.specs.Looks.{LookedMore}
use Rattle.chi_search.proofs.layer.spend.Given as goal

abbrev pub invariant-loop-budget : goal.invariant-loop-budget
invariant-loop-budget g l = record {
  left : l.budget ≤ l.initial.budget;
  looked : LookedMore g.P.Progress.looked l.initial.progress l.progress (l.initial.budget - l.budget);
}

abbrev pub decreases-loop-budget : goal.decreases-loop-budget
decreases-loop-budget g l = l.budget
