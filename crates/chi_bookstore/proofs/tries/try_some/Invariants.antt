-- Each try so far was lost.
use Rattle.chi_bookstore.proofs.LostTries.{IsAfter}
use Rattle.chi_bookstore.proofs.tries.try_some.Given as goal

abbrev pub invariant-tries : goal.invariant-tries
invariant-tries g l = IsAfter l.home.values l.initial.seat l.purpose.access l.lost l.seat
