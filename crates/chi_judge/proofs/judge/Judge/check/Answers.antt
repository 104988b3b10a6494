-- what an order of the search says that was told all that is kept, or that there is none
use Rattle.std.proofs.Common.{◌≡◌, ℕ, List, ◌++◌, IfSome, Option, Some, false, ap, subst, sym, ◌∙◌}
use Rattle.chi_trace.specs.declared.operation.Operation.{Operation}
use Rattle.chi_search.specs.declared.order.Found.{Found}
use Rattle.chi_search.specs.Found.{IfNothing, IfOrder}
use Rattle.chi_search.specs.Frontiers.{Follows, FrontierValue}
use Rattle.chi_search.specs.Layers.{SomeLeads}
use Rattle.chi_search.proofs.Looking.{some_after}
use Rattle.chi_judge.specs.Judges.{JudgeValue}
use Rattle.chi_judge.proofs.Checked.{known_explains, leads_none, leads_some, stopped_none}
use Rattle.chi_judge.proofs.judge.Judge.check.Goals as goal

-- what was told leads to a word with this property, or to none
abbrev LeadsTo : FrontierValue → (ℕ → Type 0) → Type 0
LeadsTo f P = (words : List ℕ) (told : List Operation) → Follows words told f → (v : ℕ) × SomeLeads told words v × P v

abbrev LeadsToNone : FrontierValue → (ℕ → Type 0) → Type 0
LeadsToNone f P = (words : List ℕ) (told : List Operation) → Follows words told f → (v : ℕ) → SomeLeads told words v → P v → ⊥

-- the search that was told more follows it
abbrev FollowsMore : FrontierValue → List Operation → FrontierValue → Type 0
FollowsMore before more f = (words : List ℕ) (told : List Operation) → Follows words told before → Follows words (told ++ more) f

-- the search that was told those that are kept
follows_kept : (r inside : JudgeValue) (more : List Operation) (told : Option FrontierValue) (after : FrontierValue) → inside ≡ r → more ≡ inside.kept → told ≡ Some after
    → IfSome told (FollowsMore inside.before more) → FollowsMore r.before r.kept after
follows_kept r inside more told after same kept is follows =
    subst (λ (v : JudgeValue). FollowsMore v.before v.kept after) same
    (subst (λ (ops : List Operation). FollowsMore inside.before ops after) kept (subst (λ (o : Option FrontierValue). IfSome o (FollowsMore inside.before more)) is follows))

pub returns-then-self-clause-unexplained : goal.returns-then-self-clause-unexplained
returns-then-self-clause-unexplained g c = stopped_none c.granules_stand_alone.ensures c.args.self.now c.args.final_word (ap (λ (v : JudgeValue). v.is_stopped) (sym c.self.view_is) ∙ c.if-self.true)

pub returns-then-leads_to-clause-explained : goal.returns-then-leads_to-clause-explained
returns-then-leads_to-clause-explained g c =
    let goes : c.args.self.now.is_stopped ≡ false = ap (λ (v : JudgeValue). v.is_stopped) (sym c.self.view_is) ∙ c.if-self.false in
    known_explains c.granules_stand_alone.ensures c.args.self.now c.args.final_word goes (c.leads_to.ensures.0 c.if-leads_to.true)

pub returns-in-Order-clause-explained : goal.returns-in-Order-clause-explained
returns-in-Order-clause-explained g c =
    let r = c.args.self.now in
    let after = c.in-Some.after in
    let goes : r.is_stopped ≡ false = ap (λ (v : JudgeValue). v.is_stopped) (sym c.self.view_is) ∙ c.if-self.false in
    let leads = subst (λ (found : Found). IfOrder found (λ x. LeadsTo after (λ v. IfSome c.args.final_word (λ seen. v ≡ seen)))) c.in-Order.is c.in_ok-order.ensures.leads in
    leads_some c.granules_stand_alone.ensures r c.args.final_word after goes (follows_kept r _ _ _ after c.self.view_is c.deref.ensures.value c.in-Some.is c.in_ok-after.ensures.follows) leads

pub returns-in-Nothing-clause-unexplained : goal.returns-in-Nothing-clause-unexplained
returns-in-Nothing-clause-unexplained g c =
    let r = c.args.self.now in
    let after = c.in-Some.after in
    let goes : r.is_stopped ≡ false = ap (λ (v : JudgeValue). v.is_stopped) (sym c.self.view_is) ∙ c.if-self.false in
    let none = subst (λ (found : Found). IfNothing found (LeadsToNone after (λ v. IfSome c.args.final_word (λ seen. v ≡ seen)))) c.in-Nothing.is c.in_ok-order.ensures.nothing in
    leads_none c.granules_stand_alone.ensures r c.args.final_word after goes (follows_kept r _ _ _ after c.self.view_is c.deref.ensures.value c.in-Some.is c.in_ok-after.ensures.follows) none

pub returns-in-Order-clause-looked : goal.returns-in-Order-clause-looked
returns-in-Order-clause-looked g c =
    some_after g.P.Progress.looked c.args.progress.now c.goes_on.new.progress c.order.new.progress (_, c.in_ok-goes_on.ensures.spends.1) (_, c.in_ok-order.ensures.spends.1)

pub returns-in-Nothing-clause-looked : goal.returns-in-Nothing-clause-looked
returns-in-Nothing-clause-looked g c =
    some_after g.P.Progress.looked c.args.progress.now c.goes_on.new.progress c.order.new.progress (_, c.in_ok-goes_on.ensures.spends.1) (_, c.in_ok-order.ensures.spends.1)

pub returns-clause-looked : goal.returns-clause-looked
returns-clause-looked g c =
    some_after g.P.Progress.looked c.args.progress.now c.goes_on.new.progress c.order.new.progress (_, c.in_ok-goes_on.ensures.spends.1) (_, c.in_ok-order.ensures.spends.1)
