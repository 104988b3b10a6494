-- some states were looked at
use Rattle.chi_search.specs.Looks.{LookedSome}
use Rattle.chi_judge.proofs.answers.answers_at.Given as goal

abbrev pub invariant-loop-time : goal.invariant-loop-time
invariant-loop-time g l = LookedSome g.P.Progress.looked l.initial.progress l.progress
