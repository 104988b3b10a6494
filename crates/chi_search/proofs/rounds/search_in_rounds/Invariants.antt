-- the states of the set are dead, the parts are parts, and what the budget lost was looked at
use Rattle.std.proofs.Common.{◌-◌, ◌<◌, ◌≤◌, All}
use Rattle.chi_search.specs.Looks.{LookedMore}
use Rattle.chi_search.specs.Parts.{IsPartOf}
use Rattle.chi_search.specs.Paths.{AllDead}
use Rattle.chi_search.proofs.rounds.search_in_rounds.Given as goal

abbrev pub invariant-loop-budget : goal.invariant-loop-budget
invariant-loop-budget g l = record {
  parts : All (IsPartOf l.problem.ops.now l.problem.final_word) l.parts;
  dead : AllDead l.problem.ops.now l.problem.final_word l.dead;
  share : 0 < l.share;
  left : l.budget ≤ l.initial.budget;
  looked : LookedMore g.P.Progress.looked l.initial.progress l.progress (l.initial.budget - l.budget);
}

abbrev pub decreases-loop-budget : goal.decreases-loop-budget
decreases-loop-budget g l = l.budget
