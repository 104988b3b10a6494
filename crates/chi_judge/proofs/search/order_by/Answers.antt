-- what the search says after what was known by a time
use Rattle.std.proofs.Common.{List, All, IfOk, subst, ◌∙◌}
use Rattle.std.proofs.lemmas.Result.{IfOk-weaker}
use Rattle.chi_trace.specs.declared.operation.Operation.{Operation}
use Rattle.chi_trace.specs.Cuts.{cut}
use Rattle.chi_search.specs.declared.order.Found.{Found}
use Rattle.chi_search.specs.Found.{IfNothing, IfOrder, IfUndecided}
use Rattle.chi_search.specs.Frontiers.{MayBeTold}
use Rattle.chi_search.specs.Looks.{LookedMore}
use Rattle.chi_judge.specs.Judges.{GoesNowhere, GoesOn, LiesWithin}
use Rattle.chi_judge.proofs.Cutting.{cut_told, cut_within}
use Rattle.chi_judge.proofs.More.{neither_implies}
use Rattle.chi_judge.proofs.search.order_by.Goals as goal

pub returns-clause-order : goal.returns-clause-order
returns-clause-order g c =
    subst (λ (ops : List Operation). IfOk c.order_after.result (λ (found : Found). IfOrder found (λ order. GoesOn c.args.before.now ops)))
    (c.deref.ensures.value ∙ c.in_ok-known.ensures) c.order_after.ensures.order

pub returns-clause-nothing : goal.returns-clause-nothing
returns-clause-nothing g c =
    subst (λ (ops : List Operation). IfOk c.order_after.result (λ (found : Found). IfNothing found (GoesNowhere c.args.before.now ops)))
    (c.deref.ensures.value ∙ c.in_ok-known.ensures) c.order_after.ensures.nothing

pub returns-clause-undecided : goal.returns-clause-undecided
returns-clause-undecided g c =
    let looked = LookedMore g.P.Progress.looked c.args.progress.now c.order_after.new.progress c.args.budget in
    let before = c.args.before.now in
    let more = c.args.more.now in
    let known = c.deref.ensures.value ∙ c.in_ok-known.ensures in
    let said = subst (λ (ops : List Operation). IfOk c.order_after.result (λ (found : Found). IfUndecided found (MayBeTold before ops → All LiesWithin ops → looked))) known c.order_after.ensures.undecided in
    IfOk-weaker c.order_after.result (λ (found : Found). IfUndecided found (MayBeTold before (cut c.args.time more) → All LiesWithin (cut c.args.time more) → looked))
    (λ (found : Found). IfUndecided found (MayBeTold before more → All LiesWithin more → looked))
    (λ found. neither_implies found (MayBeTold before (cut c.args.time more) → All LiesWithin (cut c.args.time more) → looked) (MayBeTold before more → All LiesWithin more → looked)
    (λ is may within. is (cut_told before c.args.time more may) (cut_within c.args.time more within)))
    said
