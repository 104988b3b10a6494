-- the states of the verdict, and those that were looked at after it
use Rattle.chi_search.proofs.Growing.{looked_none}
use Rattle.chi_check.proofs.SearchLemmas.{searched_after}
use Rattle.chi_check.proofs.search.search.Goals as goal

pub returns-clause-spent : goal.returns-clause-spent
returns-clause-spent g c =
    searched_after g.P.Progress.states g.P.Progress.looked c.args.progress.now c.args.progress.now c.answer_of.new.progress c.in_ok-answer.answer c.cut_short.result
    (looked_none g.P.Progress.states c.args.progress.now) c.in_ok-answer.ensures.spent c.cut_short.ensures
