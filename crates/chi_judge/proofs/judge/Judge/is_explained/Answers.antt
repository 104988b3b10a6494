-- with an order some order explains them, and where the search goes nowhere none does
use Rattle.std.proofs.Common.{◌≡◌, ◌⊎◌, ℕ, Bool, false, IfOk, IsTrue, List, inl, inr, sym, ap, subst, arith, true≢false}
use Rattle.std.specs.Prelude.{All}
use Rattle.chi_search.specs.declared.order.Found.{Found}
use Rattle.chi_search.specs.Found.{IfNothing, IfOrder, IfUndecided}
use Rattle.chi_search.specs.Frontiers.{FrontierValue, MayBeTold}
use Rattle.chi_search.specs.Looks.{LookedAtLeast, LookedMore}
use Rattle.chi_trace.specs.Cuts.{cut}
use Rattle.chi_trace.specs.declared.operation.Operation.{Operation}
use Rattle.chi_judge.specs.Judges.{GoesNowhere, GoesOn, LiesWithin, JudgeValue}
use Rattle.chi_judge.specs.Reaches.{IsExplained, IsJudgeOf}
use Rattle.chi_judge.specs.Searches.{IsSeen}
use Rattle.chi_judge.proofs.More.{told_kept}
use Rattle.chi_judge.proofs.Reached.{explained_by, unexplained_by}
use Rattle.chi_judge.proofs.judge.Judge.is_explained.Goals as goal
use Rattle.chi_judge.proofs.judge.Judge.is_explained.Goals.{in-Nothing, in-Order, in-Undecided}

-- what is said where they are explained, and where they are not
abbrev Explained : JudgeValue → ℕ → Type 0 → Bool → Type 0
Explained r time looked is = IsTrue is → (trace : List Operation) (n w : ℕ) → IsJudgeOf trace n w r → IsSeen r time → IsExplained time trace n w ⊎ looked

abbrev Unexplained : JudgeValue → ℕ → Type 0 → Bool → Type 0
Unexplained r time looked is = is ≡ false → (trace : List Operation) (n w : ℕ) → IsJudgeOf trace n w r → IsSeen r time → (IsExplained time trace n w → ⊥) ⊎ looked

pub returns-clause-explained : goal.returns-clause-explained
returns-clause-explained g c =
    let r = c.args.self.now in
    let least = LookedAtLeast g.P.Progress.looked c.args.progress.now c.order_by.new.progress c.args.budget in
    let more = LookedMore g.P.Progress.looked c.args.progress.now c.order_by.new.progress c.args.budget in
    let P = Explained r c.args.time (IsTrue c.args.undecided × least) in
    elim c.match-branch-2.branch [
      | in-Nothing m ↦ subst (λ (o : _). IfOk o P) (sym m.result-is) (λ so. absurd (true≢false (sym so)))
      | in-Order m ↦
          let on = subst (λ (f : Found). IfOrder f (λ order. GoesOn c.self.inside.before (cut c.args.time c.args.ops.now))) m.in-Order.is c.in_ok-order_by.ensures.order in
          subst (λ (o : _). IfOk o P) (sym m.result-is)
          (λ so trace n w is seen. inl (explained_by c.granules_stand_alone.ensures trace n w r is c.args.time seen
          (subst (λ (f : FrontierValue). GoesOn f (cut c.args.time r.kept)) (ap (λ (v : JudgeValue). v.before) c.self.view_is)
          (subst (λ (ops : List Operation). GoesOn c.self.inside.before (cut c.args.time ops)) c.requires.kept on))))
      | in-Undecided m ↦
          let said = subst (λ (f : Found). IfUndecided f (MayBeTold c.self.inside.before c.args.ops.now → All LiesWithin c.args.ops.now → more)) m.in-Undecided.is c.in_ok-order_by.ensures.undecided in
          subst (λ (o : _). IfOk o P) (sym m.result-is) (λ so trace n w is seen. inr (so, (c.args.budget, omega arith, told_kept c.self.inside.before c.args.ops.now r (ap (λ (v : JudgeValue). v.before) c.self.view_is) c.requires.kept said trace n w is)))
    ]

pub returns-clause-unexplained : goal.returns-clause-unexplained
returns-clause-unexplained g c =
    let r = c.args.self.now in
    let least = LookedAtLeast g.P.Progress.looked c.args.progress.now c.order_by.new.progress c.args.budget in
    let more = LookedMore g.P.Progress.looked c.args.progress.now c.order_by.new.progress c.args.budget in
    let P = Unexplained r c.args.time ((c.args.undecided ≡ false) × least) in
    elim c.match-branch-2.branch [
      | in-Order m ↦ subst (λ (o : _). IfOk o P) (sym m.result-is) (λ so. absurd (true≢false so))
      | in-Nothing m ↦
          let none = subst (λ (f : Found). IfNothing f (GoesNowhere c.self.inside.before (cut c.args.time c.args.ops.now))) m.in-Nothing.is c.in_ok-order_by.ensures.nothing in
          subst (λ (o : _). IfOk o P) (sym m.result-is)
          (λ so trace n w is seen. inl (unexplained_by c.granules_stand_alone.ensures trace n w r is c.args.time seen
          (subst (λ (f : FrontierValue). GoesNowhere f (cut c.args.time r.kept)) (ap (λ (v : JudgeValue). v.before) c.self.view_is)
          (subst (λ (ops : List Operation). GoesNowhere c.self.inside.before (cut c.args.time ops)) c.requires.kept none))))
      | in-Undecided m ↦
          let said = subst (λ (f : Found). IfUndecided f (MayBeTold c.self.inside.before c.args.ops.now → All LiesWithin c.args.ops.now → more)) m.in-Undecided.is c.in_ok-order_by.ensures.undecided in
          subst (λ (o : _). IfOk o P) (sym m.result-is) (λ so trace n w is seen. inr (so, (c.args.budget, omega arith, told_kept c.self.inside.before c.args.ops.now r (ap (λ (v : JudgeValue). v.before) c.self.view_is) c.requires.kept said trace n w is)))
    ]
