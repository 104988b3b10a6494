-- the search that was told all that is kept goes along it
use Rattle.std.proofs.Common.{ℕ, ◌++◌, List, IfSome, None, Option, Some, subst}
use Rattle.std.proofs.lemmas.Result.{IfOk-weaker}
use Rattle.chi_trace.specs.declared.operation.Operation.{Operation}
use Rattle.chi_search.specs.Frontiers.{Follows, FrontierValue, GoesAlong}
use Rattle.chi_search.proofs.OneWay.{follows_along}
use Rattle.chi_trace.specs.Segments.{AreLasting}
use Rattle.chi_judge.specs.Judges.{LeadsBy}
use Rattle.chi_judge.proofs.ahead.first_along.Goals as goal

-- what follows where there is one
some_implies : {X : Type 0} (o : Option X) (P Q : X → Type 0) → ((x : X) → P x → Q x) → IfSome o P → IfSome o Q
some_implies None P Q implies is = tt
some_implies (Some x) P Q implies is = implies x is

pub returns-in-Some-clause-along : goal.returns-in-Some-clause-along
returns-in-Some-clause-along g c =
    let before = c.args.before.now in
    let kept = c.args.kept.now in
    let from = c.in-Some.from in
    let follows = subst (λ (o : Option FrontierValue). IfSome o (λ f. (words : List ℕ) (told : List Operation) → Follows words told before → Follows words (told ++ kept) f)) c.in-Some.is c.in_ok-from.ensures.follows in
    let Next : FrontierValue → Type 0 = λ f. (words : List ℕ) (told : List Operation) → GoesAlong words told from → GoesAlong words told f in
    let First : FrontierValue → Type 0 = λ f. (words : List ℕ) (told : List Operation) → Follows words told before → GoesAlong words (told ++ kept) f in
    IfOk-weaker c.next_along.result (λ next. IfSome next Next) (λ next. IfSome next First)
    (λ next. some_implies next Next First (λ f goes words told told_before. goes words (told ++ kept) (follows_along words (told ++ kept) from (follows words told told_before))))
    c.next_along.ensures.along

pub returns-in-Some-clause-leads : goal.returns-in-Some-clause-leads
returns-in-Some-clause-leads g c =
    let before = c.args.before.now in
    let kept = c.args.kept.now in
    let from = c.in-Some.from in
    let follows = subst (λ (o : Option FrontierValue). IfSome o (λ f. (words : List ℕ) (told : List Operation) → Follows words told before → Follows words (told ++ kept) f)) c.in-Some.is c.in_ok-from.ensures.follows in
    let Next : FrontierValue → Type 0 = λ f. (words : List ℕ) (told : List Operation) → AreLasting told → GoesAlong words told from → LeadsBy c.args.time words told in
    let First : FrontierValue → Type 0 = λ f. (words : List ℕ) (told : List Operation) → AreLasting (told ++ kept) → Follows words told before → LeadsBy c.args.time words (told ++ kept) in
    IfOk-weaker c.next_along.result (λ next. IfSome next Next) (λ next. IfSome next First)
    (λ next. some_implies next Next First (λ f leads words told lasting told_before. leads words (told ++ kept) lasting (follows_along words (told ++ kept) from (follows words told told_before))))
    c.next_along.ensures.leads
