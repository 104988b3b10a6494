-- the states of the searches for words, and of one for an order or two
use Rattle.std.proofs.Common.{sym, subst}
use Rattle.chi_search.specs.Looks.{LookedSome}
use Rattle.chi_search.proofs.Looking.{some_after}
use Rattle.chi_judge.proofs.answers.answers_of.Goals as goal
use Rattle.chi_judge.proofs.answers.answers_of.Goals.{then-is_none+in_ok-found-2, else-is_none}

pub returns : goal.returns
returns g c =
    some_after g.P.Progress.looked c.args.progress.now c.answers_at.new.progress c.if-is_none.progress c.in_ok-answers.ensures
    (elim c.if-is_none.branch [
      | then-is_none+in_ok-found-2 w ↦
          subst (LookedSome g.P.Progress.looked c.answers_at.new.progress) (sym w.progress-is)
          (some_after g.P.Progress.looked c.answers_at.new.progress c.answer_in_order.new.progress w.answer_in_order-then-is_none.new.progress
          c.in_ok-found.ensures w.in_ok-found-2.ensures)
      | else-is_none w ↦ subst (LookedSome g.P.Progress.looked c.answers_at.new.progress) (sym w.progress-is) c.in_ok-found.ensures
    ])
