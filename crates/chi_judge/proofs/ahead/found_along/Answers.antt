-- both searches looked at some states
use Rattle.chi_search.proofs.Looking.{some_after}
use Rattle.chi_judge.proofs.ahead.found_along.Goals as goal

pub returns-in-Some-2-clause-looked : goal.returns-in-Some-2-clause-looked
returns-in-Some-2-clause-looked g c =
    some_after g.P.Progress.looked c.args.progress.now c.further_along.new.progress c.first_along.new.progress c.in_ok-found.ensures.looked c.in_ok-next.ensures.looked

pub returns-in-None-clause-looked : goal.returns-in-None-clause-looked
returns-in-None-clause-looked g c =
    some_after g.P.Progress.looked c.args.progress.now c.further_along.new.progress c.first_along.new.progress c.in_ok-found.ensures.looked c.in_ok-next.ensures.looked
