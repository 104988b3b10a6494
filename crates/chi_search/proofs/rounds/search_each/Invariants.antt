-- the states of the set are dead, and so are those so far, where none was left undecided; one that was spent something
use Rattle.std.proofs.Common.{◌≡◌, ◌-◌, ◌<◌, ◌≤◌, All, IsTrue, false}
use Rattle.chi_search.specs.Looks.{LookedMore}
use Rattle.chi_search.specs.Parts.{IsPartOf}
use Rattle.chi_search.specs.Paths.{AllDead}
use Rattle.chi_search.proofs.DeadStates.{AreDeadTo}
use Rattle.chi_search.proofs.rounds.search_each.Given as goal

abbrev pub invariant-loop-place : goal.invariant-loop-place
invariant-loop-place g l = record {
  parts : All (IsPartOf l.problem.ops.now l.problem.final_word) l.parts;
  dead : AllDead l.problem.ops.now l.problem.final_word l.dead;
  all : IsTrue l.are_dead → AreDeadTo l.problem.ops.now l.problem.final_word l.from l.place;
  less : l.are_dead ≡ false → 0 < l.initial.budget → l.budget < l.initial.budget;
  left : l.budget ≤ l.initial.budget;
  looked : LookedMore g.P.Progress.looked l.initial.progress l.progress (l.initial.budget - l.budget);
}
