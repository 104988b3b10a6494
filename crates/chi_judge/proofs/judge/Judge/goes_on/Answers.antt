-- an order from the last search along one explains all that was told
use Rattle.std.proofs.Common.{◌≡◌, ◌-◌, ◌≤◌, ℕ, ◌∷◌, [], ◌++◌, IfSome, List, Option, drop, length, length-drop, take, false, ap, sym, subst, ◌∙◌, arith}
use Rattle.std.proofs.lemmas.List.{take_all}
use Rattle.chi_trace.specs.declared.operation.Operation.{Operation}
use Rattle.chi_search.specs.declared.order.Found.{Found}
use Rattle.chi_search.specs.Found.{IfOrder}
use Rattle.chi_search.specs.Frontiers.{FrontierValue, GoesAlong}
use Rattle.chi_search.specs.Layers.{SomeLeads}
use Rattle.chi_search.specs.Looks.{LookedMore, Search}
use Rattle.chi_judge.specs.Judges.{JudgeValue}
use Rattle.chi_judge.specs.Reaches.{IsJudgeOf}
use Rattle.chi_judge.proofs.Checked.{led_explains}
use Rattle.chi_judge.proofs.Keeping.{told_rest}
use Rattle.chi_judge.proofs.judge.Judge.goes_on.Goals as goal

pub returns-in-Order-clause-explained : goal.returns-in-Order-clause-explained
returns-in-Order-clause-explained g c law is_true trace n w of_now =
    let s = c.self.inside in
    let r : JudgeValue = record { before = s.before; left = s.left.items; shown = s.shown; kept = s.kept.items; ahead = s.ahead.items; seen = s.seen; word = s.word; since = s.since; horizon = s.horizon; latest = s.latest; is_stopped = s.is_stopped } in
    let is : IsJudgeOf trace n w r = subst (IsJudgeOf trace n w) (sym c.self.view_is) of_now in
    let earlier = is.keeps.earlier in
    let goes : r.is_stopped ≡ false = subst (λ (v : JudgeValue). v.is_stopped ≡ false) (sym c.self.view_is) c.requires.goes_on in
    let more : c.in-Some.more.now ≡ drop s.seen s.kept.items =
    c.in-Some.ensures.lookup.0.2
    ∙ (take_all (length c.deref.result.now - s.seen) (drop s.seen c.deref.result.now) (omega (arith, length-drop s.seen c.deref.result.now)) ∙ ap (drop s.seen) c.deref.ensures.value) in
    let last = c.index-last.result.now in
    let before : GoesAlong (w ∷ []) (earlier ++ take s.seen s.kept.items) last =
    subst (GoesAlong (w ∷ []) (earlier ++ take s.seen s.kept.items)) (sym c.index-last.ensures) (is.keeps.ahead (c.len-count.result - 1) last (omega arith)) in
    let told_more = subst (λ (o : Option FrontierValue). IfSome o (λ f. (words : List ℕ) (told : List Operation) → GoesAlong words told last → GoesAlong words (told ++ c.in-Some.more.now) f)) c.in-Some-2.is c.in_ok-after.ensures.along in
    let along : GoesAlong (w ∷ []) (earlier ++ s.kept.items) c.in-Some-2.after =
    subst (λ (l : List Operation). GoesAlong (w ∷ []) l c.in-Some-2.after) (told_rest (w ∷ []) is.told is.now r is.keeps c.in-Some.more.now more) (told_more (w ∷ []) (earlier ++ take s.seen s.kept.items) before) in
    let led = subst (λ (found : Found). IfOrder found (λ order. (words : List ℕ) (told : List Operation) → GoesAlong words told c.in-Some-2.after → (v : ℕ) × SomeLeads told words v × IfSome c.args.final_word (λ seen. v ≡ seen)))
    c.in-Order.is c.in_ok-found.ensures.along in
    led_explains law r c.args.final_word goes trace n w is (led (w ∷ []) (earlier ++ s.kept.items) along)

-- as many as the short budget lost
spent : {P : Type 0} (looked : Search → P → ℕ → Type 0) (old new : P) (budget short left : ℕ) → short ≤ budget → LookedMore looked old new (short - left)
    → (budget - (short - left) ≤ budget) × LookedMore looked old new (budget - (budget - (short - left)))
spent looked old new budget short left within more = (omega arith, subst (LookedMore looked old new) (let same : short - left ≡ budget - (budget - (short - left)) = omega (arith, within) in same) more)

pub returns-in-Order-clause-spends : goal.returns-in-Order-clause-spends
returns-in-Order-clause-spends g c = spent g.P.Progress.looked c.args.progress.now c.order.new.progress c.args.budget.now c.min-short.result c.order.new.budget (omega arith) c.in_ok-found.ensures.spends.1

pub returns-in-Nothing-clause-spends : goal.returns-in-Nothing-clause-spends
returns-in-Nothing-clause-spends g c = spent g.P.Progress.looked c.args.progress.now c.order.new.progress c.args.budget.now c.min-short.result c.order.new.budget (omega arith) c.in_ok-found.ensures.spends.1
