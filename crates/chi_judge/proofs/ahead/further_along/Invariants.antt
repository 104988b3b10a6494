-- some states were looked at
use Rattle.chi_search.specs.Looks.{LookedSome}
use Rattle.chi_judge.proofs.ahead.further_along.Given as goal

abbrev pub invariant-loop-back : goal.invariant-loop-back
invariant-loop-back g l = record { looked : LookedSome g.P.Progress.looked l.initial.progress l.progress }
