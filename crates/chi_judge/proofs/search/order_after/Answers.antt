-- what the search says that was told more
use Rattle.std.proofs.Common.{◌≡◌, ℕ, ◌-◌, ◌≤◌, List, ◌++◌, IfSome, Option, None, subst}
use Rattle.std.proofs.lemmas.Result.{IfOk-weaker}
use Rattle.chi_trace.specs.declared.operation.Operation.{Operation}
use Rattle.chi_search.specs.declared.order.Found.{Found}
use Rattle.chi_search.specs.Found.{IfNothing, IfOrder}
use Rattle.chi_search.specs.Frontiers.{Follows, FrontierValue, GoesAlong}
use Rattle.chi_search.specs.Layers.{SomeLeads}
use Rattle.chi_search.specs.Looks.{LookedMore, LookedSome}
use Rattle.chi_judge.specs.Judges.{GoesNowhere, GoesOn}
use Rattle.chi_judge.proofs.More.{nothing_implies, order_implies}
use Rattle.chi_judge.proofs.search.order_after.Goals as goal

-- what an order says of the search that was told more, and what its absence says
abbrev Leads : FrontierValue → Type 0
Leads f = (words : List ℕ) (told : List Operation) → Follows words told f → (v : ℕ) × SomeLeads told words v × IfSome None (λ (seen : ℕ). v ≡ seen)

abbrev LeadsNowhere : FrontierValue → Type 0
LeadsNowhere f = (words : List ℕ) (told : List Operation) → Follows words told f → (v : ℕ) → SomeLeads told words v → IfSome None (λ (seen : ℕ). v ≡ seen) → ⊥

abbrev Follow : FrontierValue → List Operation → FrontierValue → Type 0
Follow before more f = (words : List ℕ) (told : List Operation) → Follows words told before → Follows words (told ++ more) f

-- the same of a search that goes along what was told
abbrev LeadsAlong : FrontierValue → Type 0
LeadsAlong f = (words : List ℕ) (told : List Operation) → GoesAlong words told f → (v : ℕ) × SomeLeads told words v × IfSome None (λ (seen : ℕ). v ≡ seen)

abbrev KeepsAlong : FrontierValue → List Operation → FrontierValue → Type 0
KeepsAlong before more f = (words : List ℕ) (told : List Operation) → GoesAlong words told before → GoesAlong words (told ++ more) f

pub returns-in-Some-clause-order : goal.returns-in-Some-clause-order
returns-in-Some-clause-order g c =
    let more = c.args.more.now in
    let before = c.args.before.now in
    let told_more = subst (λ (o : Option FrontierValue). IfSome o (Follow before more)) c.in-Some.is c.in_ok-after.ensures.follows in
    IfOk-weaker c.order.result (λ (found : Found). IfOrder found (λ order. Leads c.in-Some.after)) (λ (found : Found). IfOrder found (λ order. GoesOn before more))
    (λ found. order_implies found (Leads c.in-Some.after) (GoesOn before more)
    (λ leads words told follows. let led = leads words (told ++ more) (told_more words told follows) in (led.0, led.1)))
    c.order.ensures.leads

pub returns-in-Some-clause-along : goal.returns-in-Some-clause-along
returns-in-Some-clause-along g c =
    let more = c.args.more.now in
    let before = c.args.before.now in
    let told_more = subst (λ (o : Option FrontierValue). IfSome o (KeepsAlong before more)) c.in-Some.is c.in_ok-after.ensures.along in
    IfOk-weaker c.order.result (λ (found : Found). IfOrder found (λ order. LeadsAlong c.in-Some.after))
    (λ (found : Found). IfOrder found (λ order. (words : List ℕ) (told : List Operation) → GoesAlong words told before → (v : ℕ) × SomeLeads (told ++ more) words v))
    (λ found. order_implies found (LeadsAlong c.in-Some.after) ((words : List ℕ) (told : List Operation) → GoesAlong words told before → (v : ℕ) × SomeLeads (told ++ more) words v)
    (λ leads words told along. let led = leads words (told ++ more) (told_more words told along) in (led.0, led.1)))
    c.order.ensures.along

pub returns-in-Some-clause-nothing : goal.returns-in-Some-clause-nothing
returns-in-Some-clause-nothing g c =
    let more = c.args.more.now in
    let before = c.args.before.now in
    let told_more = subst (λ (o : Option FrontierValue). IfSome o (Follow before more)) c.in-Some.is c.in_ok-after.ensures.follows in
    IfOk-weaker c.order.result (λ (found : Found). IfNothing found (LeadsNowhere c.in-Some.after)) (λ (found : Found). IfNothing found (GoesNowhere before more))
    (λ found. nothing_implies found (LeadsNowhere c.in-Some.after) (GoesNowhere before more)
    (λ none words told follows v leads. none words (told ++ more) (told_more words told follows) v leads tt))
    c.order.ensures.nothing

pub returns-in-Some-clause-looked : goal.returns-in-Some-clause-looked
returns-in-Some-clause-looked g c =
    let looked = g.P.Progress.looked in
    let old = c.args.progress.now in
    let new = c.order.new.progress in
    let more = c.args.budget - c.order.new.budget in
    IfOk-weaker c.order.result
    (λ (found : Found). (c.order.new.budget ≤ c.args.budget) × LookedMore looked old new more) (λ (found : Found). LookedSome looked old new)
    (λ found is. (more, is.1)) c.order.ensures.spends
