-- some states were looked at, and some to forget
use Rattle.chi_search.proofs.Looking.{some_after}
use Rattle.chi_judge.proofs.judge.Judge.move_on.Goals as goal

pub returns-in_ok-forget-clause-looked : goal.returns-in_ok-forget-clause-looked
returns-in_ok-forget-clause-looked g c =
    some_after g.P.Progress.looked c.args.progress.now c.look.new.progress c.forget.new.progress c.in_ok-is_seen.ensures.looked c.in_ok-forget.ensures.looked
