-- the states of one search more
use Rattle.chi_search.proofs.Looking.{some_after}
use Rattle.chi_judge.proofs.answers.answers_at.Goals as goal

pub loop-time-preserved : goal.loop-time-preserved
loop-time-preserved g c =
    some_after g.P.Progress.looked c.args.progress.now c.loop-time.progress c.words_by.new.progress c.loop-time.invariant (_, c.in_ok-words.ensures.spends.1)
