-- an order says what is the next horizon, and both searches looked at some states
use Rattle.std.proofs.Common.{◌≡◌, ◌+◌, ◌≤◌, ℕ, Bool, false, true, true≢false, Global, IfOk, IsTrue, List, Ok, Result, Vec, ap, refl, sym, subst, ◌∙◌}
use Rattle.chi_trace.specs.declared.operation.Operation.{Operation}
use Rattle.chi_search.specs.declared.order.Found.{Found}
use Rattle.chi_search.specs.declared.order.Found.TheVariants.{Order}
use Rattle.chi_search.specs.Found.{IfOrder}
use Rattle.chi_judge.specs.Judges.{IsNextHorizon, JudgeValue, Keeps}
use Rattle.chi_judge.proofs.judge.Judge.look.Goals.{in-Order, in-Nothing, in-Undecided}
use Rattle.chi_search.specs.Looks.{LookedSome}
use Rattle.chi_search.proofs.Looking.{some_after}
use Rattle.chi_judge.proofs.More.{ok_always}
use Rattle.chi_judge.proofs.judge.Judge.look.Goals as goal

pub returns-clause-looked : goal.returns-clause-looked
returns-clause-looked g c =
    ok_always (LookedSome g.P.Progress.looked c.args.progress.now c.order_before.new.progress) _
    (some_after g.P.Progress.looked c.args.progress.now c.goes_ahead.new.progress c.order_before.new.progress c.in_ok-goes_ahead.ensures.looked c.in_ok-order_before.ensures.looked)

pub returns-then-branch-clause-next : goal.returns-then-branch-clause-next
returns-then-branch-clause-next g c is_true goes words told now past keeps = c.in_ok-goes_ahead.ensures.next c.if-branch.true words told now past keeps

-- what is answered where it goes on as this says
said : {E : Type 0} (result : Result Bool E) (new is : JudgeValue) (P : JudgeValue → Type 0) → result ≡ Ok true → new ≡ is → P is → IfOk result (λ b. IsTrue b → new.is_stopped ≡ false → P new)
said result new is P answered same holds =
    subst (λ r. IfOk r (λ b. IsTrue b → new.is_stopped ≡ false → P new)) (sym answered) (λ is_true goes. subst P (sym same) holds)

-- and where it has stopped
stopped : {E : Type 0} (result : Result Bool E) (new is : JudgeValue) (P : JudgeValue → Type 0) → result ≡ Ok true → new ≡ is → is.is_stopped ≡ true
    → IfOk result (λ b. IsTrue b → new.is_stopped ≡ false → P new)
stopped result new is P answered same stops =
    subst (λ r. IfOk r (λ b. IsTrue b → new.is_stopped ≡ false → P new)) (sym answered)
    (λ is_true goes. absurd (true≢false (sym stops ∙ (ap (λ (v : JudgeValue). v.is_stopped) (sym same) ∙ goes))))

-- and where neither is known
unsaid : {E : Type 0} (result : Result Bool E) (P : Type 0) → result ≡ Ok false → IfOk result (λ b. IsTrue b → P)
unsaid result P answered = subst (λ r. IfOk r (λ b. IsTrue b → P)) (sym answered) (λ is_true. absurd (true≢false (sym is_true)))

pub returns-clause-next : goal.returns-clause-next
returns-clause-next g c =
    elim c.match-branch-3.branch [
      | in-Order w ↦ said c.match-branch-3.result c.match-branch-3.self c.goes_ahead.new.self Next w.result-is w.self-is (λ words told now past keeps. ordered w.in-Order.field-0 w.in-Order.is words told now past (c.in_ok-goes_ahead.ensures.keeps words told now keeps))
      | in-Nothing w ↦ stopped c.match-branch-3.result c.match-branch-3.self _ Next w.result-is w.self-is refl
      | in-Undecided w ↦ unsaid c.match-branch-3.result (c.match-branch-3.self.is_stopped ≡ false → Next c.match-branch-3.self) w.result-is
    ]
  where
    Next : JudgeValue → Type 0
    Next v = (words : List ℕ) (told : List Operation) (now : ℕ) → c.args.horizon ≤ now + 1 → Keeps words told now c.args.self.now → IsNextHorizon words told now v c.args.horizon

    ordered : (order : Vec ℕ Global) → c.in_ok-order_before.field-0 ≡ Order order → (words : List ℕ) (told : List Operation) (now : ℕ) → c.args.horizon ≤ now + 1
        → Keeps words told now c.goes_ahead.new.self → IsNextHorizon words told now c.goes_ahead.new.self c.args.horizon
    ordered order is =
        subst (λ (found : Found). IfOrder found (λ order. (words : List ℕ) (told : List Operation) (now : ℕ) → c.args.horizon ≤ now + 1 → Keeps words told now c.goes_ahead.new.self → IsNextHorizon words told now c.goes_ahead.new.self c.args.horizon)) is
        c.in_ok-order_before.ensures.order
