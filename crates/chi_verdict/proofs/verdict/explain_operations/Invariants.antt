-- what the walk has passed is explained, what it has not is to come, and the budget was looked at where a granule is not decided
use Rattle.std.proofs.Common.{◌≤◌, ◌+◌, ◌-◌, length}
use Rattle.chi_verdict.proofs.Spent.{LookedFor}
use Rattle.chi_verdict.proofs.Walked.{Walked}
use Rattle.chi_verdict.proofs.verdict.explain_operations.Given as goal

abbrev pub invariant-loop-granule : goal.invariant-loop-granule
invariant-loop-granule g l = record {
  from_in : l.from ≤ length l.places;
  word_in : l.last_place ≤ length l.words;
  walked : Walked l.opening l.words l.ops l.places l.from l.last_place l.undecided l.points.items;
  looked : LookedFor g.P.Progress.looked l.initial.progress l.progress l.budget l.undecided;
}

abbrev pub decreases-loop-granule : goal.decreases-loop-granule
decreases-loop-granule g l = (length l.places - l.from) + (length l.words - l.last_place)
