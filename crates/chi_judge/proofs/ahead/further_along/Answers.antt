-- the search goes along what the one told from which it goes on, and some states were looked at
use Rattle.std.proofs.Common.{ℕ, IfSome, List, Option, sym, subst}
use Rattle.chi_trace.specs.declared.operation.Operation.{Operation}
use Rattle.chi_search.specs.Frontiers.{FrontierValue, GoesAlong}
use Rattle.chi_search.proofs.Looking.{some_after}
use Rattle.chi_trace.specs.Segments.{AreLasting}
use Rattle.chi_judge.specs.Judges.{LeadsBy}
use Rattle.chi_judge.proofs.ahead.further_along.Goals as goal

pub returns-in-Some-2-clause-along : goal.returns-in-Some-2-clause-along
returns-in-Some-2-clause-along g c words told all =
    let lookup = c.in-Some-get.ensures.lookup in
    let from = c.in-Some-get.from.now in
    let first : GoesAlong words told from = subst (GoesAlong words told) (sym lookup.1) (all c.in-Some.place from lookup.3.0) in
    subst (λ (o : Option FrontierValue). IfSome o (λ f. (words : List ℕ) (told : List Operation) → GoesAlong words told from → GoesAlong words told f)) c.in-Some-2.is c.in_ok-next.ensures.along
    words told first

pub returns-in-Some-2-clause-leads : goal.returns-in-Some-2-clause-leads
returns-in-Some-2-clause-leads g c words told lasting all =
    let lookup = c.in-Some-get.ensures.lookup in
    let from = c.in-Some-get.from.now in
    let first : GoesAlong words told from = subst (GoesAlong words told) (sym lookup.1) (all c.in-Some.place from lookup.3.0) in
    subst (λ (o : Option FrontierValue). IfSome o (λ f. (words : List ℕ) (told : List Operation) → AreLasting told → GoesAlong words told from → LeadsBy c.args.time words told)) c.in-Some-2.is c.in_ok-next.ensures.leads
    words told lasting first

pub returns-in-Some-2-clause-looked : goal.returns-in-Some-2-clause-looked
returns-in-Some-2-clause-looked g c =
    some_after g.P.Progress.looked c.args.progress.now c.loop-back.progress c.next_along.new.progress c.loop-back.invariant.looked c.in_ok-next.ensures.looked

pub loop-back-preserved : goal.loop-back-preserved
loop-back-preserved g c = record {
  looked = some_after g.P.Progress.looked c.args.progress.now c.loop-back.progress c.next_along.new.progress c.loop-back.invariant.looked c.in_ok-next.ensures.looked;
}
