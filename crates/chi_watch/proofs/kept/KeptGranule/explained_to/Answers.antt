-- what the judge says is so of what is followed of the granule
use Rattle.std.proofs.Common.{◌≡◌, ◌∙◌, ℕ, List, IfOk, ap, sym, subst}
use Rattle.chi_judge.specs.Explained.{IsAsFar}
use Rattle.chi_judge.specs.Judges.{JudgeValue}
use Rattle.chi_judge.specs.Reaches.{IsJudgeOf}
use Rattle.chi_trace.specs.declared.operation.Operation.{Operation}
use Rattle.chi_watch.specs.Followed.{FollowedValue}
use Rattle.chi_watch.specs.Kept.{followed_of}
use Rattle.chi_watch.proofs.KeptJudge.{settled_judge}
use Rattle.chi_watch.proofs.kept.KeptGranule.explained_to.Goals as goal

pub returns-in-Followed-clause-far : goal.returns-in-Followed-clause-far
returns-in-Followed-clause-far g c =
    let same : c.behind-followed.inside.judge ≡ c.args.self.now.judge =
    ap (λ (f : FollowedValue). f.judge) (c.behind-followed.view_is ∙ (c.deref.ensures ∙ (ap followed_of (sym c.in-Followed.is) ∙ c.self.view_is))) in
    subst (λ (r : JudgeValue). IfOk c.explained_to.result (λ found. (trace : List Operation) (n w : ℕ) → IsJudgeOf trace n w r → IsAsFar g.P.Progress.looked c.args.progress.now c.explained_to.new.progress c.args.budget trace n w found))
    same c.explained_to.ensures.far

pub returns-in_ok-of_settled-in-Settled-clause-far : goal.returns-in_ok-of_settled-in-Settled-clause-far
returns-in_ok-of_settled-in-Settled-clause-far g c =
    let same : c.in_ok-of_settled-in-Settled.field-0 ≡ c.args.self.now.judge =
    c.in_ok-of_settled-in-Settled.ensures ∙ (sym (settled_judge c.self.inside.kept c.in-Settled.settled c.in-Settled.is) ∙ ap (λ (f : FollowedValue). f.judge) c.self.view_is) in
    subst (λ (r : JudgeValue). IfOk c.explained_to-in-Settled-2.result (λ found. (trace : List Operation) (n w : ℕ) → IsJudgeOf trace n w r → IsAsFar g.P.Progress.looked c.args.progress.now c.explained_to-in-Settled-2.new.progress c.args.budget trace n w found))
    same c.explained_to-in-Settled-2.ensures.far
