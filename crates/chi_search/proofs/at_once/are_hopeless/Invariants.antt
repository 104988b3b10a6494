-- the states of the set are dead, and so are those so far, where each was seen to be
use Rattle.std.proofs.Common.{IsTrue}
use Rattle.chi_search.specs.Paths.{AllDead}
use Rattle.chi_search.proofs.DeadStates.{AreDeadTo}
use Rattle.chi_search.proofs.at_once.are_hopeless.Given as goal

abbrev pub invariant-loop-place : goal.invariant-loop-place
invariant-loop-place l = record {
  dead : AllDead l.problem.ops.now l.problem.final_word l.dead;
  all : IsTrue l.are → AreDeadTo l.problem.ops.now l.problem.final_word l.from l.place;
}
