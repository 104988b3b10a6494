-- what is found by an order of the operations of which one was answered otherwise
use Rattle.std.proofs.Common.{List, All, IfOk, subst, ◌∙◌}
use Rattle.std.proofs.lemmas.Result.{IfOk-weaker}
use Rattle.chi_search.specs.declared.order.Found.{Found}
use Rattle.chi_search.specs.Found.{IfNothing, IfOrder, IfUndecided}
use Rattle.chi_search.specs.Frontiers.{FrontierValue, MayBeTold}
use Rattle.chi_search.specs.Looks.{LookedMore}
use Rattle.chi_trace.specs.Cuts.{cut}
use Rattle.chi_trace.specs.declared.operation.Operation.{Operation}
use Rattle.chi_judge.specs.Judges.{GoesNowhere, GoesOn, LiesWithin}
use Rattle.chi_judge.specs.Legal.{with_reply}
use Rattle.chi_judge.proofs.Changed.{told_with, within_with}
use Rattle.chi_judge.proofs.More.{neither_implies}
use Rattle.chi_judge.proofs.legal.order_with.Goals as goal

pub returns-clause-order : goal.returns-clause-order
returns-clause-order g c =
    subst (λ (l : List Operation). IfOk c.order_by.result (λ (f : Found). IfOrder f (λ order. GoesOn c.args.before.now (cut c.args.time l)))) (c.deref.ensures.value ∙ c.in_ok-changed.ensures) c.order_by.ensures.order

pub returns-clause-nothing : goal.returns-clause-nothing
returns-clause-nothing g c =
    subst (λ (l : List Operation). IfOk c.order_by.result (λ (f : Found). IfNothing f (GoesNowhere c.args.before.now (cut c.args.time l)))) (c.deref.ensures.value ∙ c.in_ok-changed.ensures) c.order_by.ensures.nothing

pub returns-clause-undecided : goal.returns-clause-undecided
returns-clause-undecided g c =
    let f : FrontierValue = c.args.before.now in
    let ops : List Operation = c.args.ops.now in
    let changed = with_reply ops c.args.place c.args.reply in
    let more = LookedMore g.P.Progress.looked c.args.progress.now c.order_by.new.progress c.args.budget in
    let said = subst (λ (l : List Operation). IfOk c.order_by.result (λ (found : Found). IfUndecided found (MayBeTold f l → All LiesWithin l → more))) (c.deref.ensures.value ∙ c.in_ok-changed.ensures) c.order_by.ensures.undecided in
    IfOk-weaker c.order_by.result (λ (found : Found). IfUndecided found (MayBeTold f changed → All LiesWithin changed → more)) (λ (found : Found). IfUndecided found (MayBeTold f ops → All LiesWithin ops → more))
    (λ found. neither_implies found (MayBeTold f changed → All LiesWithin changed → more) (MayBeTold f ops → All LiesWithin ops → more)
    (λ is may within. is (told_with ops c.args.place c.args.reply c.requires f may) (within_with ops c.args.place c.args.reply c.requires within)))
    said
