-- what the judge says is so of what is followed of the granule
use Rattle.std.proofs.Common.{◌≡◌, ◌∙◌, IfOk, ap, sym, subst}
use Rattle.chi_judge.specs.Judges.{JudgeValue}
use Rattle.chi_judge.specs.Standings.{IfUnexplained, IsInexplicable}
use Rattle.chi_watch.specs.Followed.{FollowedValue}
use Rattle.chi_watch.specs.Kept.{followed_of}
use Rattle.chi_watch.proofs.KeptJudge.{settled_judge}
use Rattle.chi_watch.proofs.kept.KeptGranule.check.Goals as goal

pub returns-in-Followed-clause-unexplained : goal.returns-in-Followed-clause-unexplained
returns-in-Followed-clause-unexplained g c =
    let same : c.behind-followed.inside.judge ≡ c.args.self.now.judge =
    ap (λ (f : FollowedValue). f.judge) (c.behind-followed.view_is ∙ (c.deref.ensures ∙ (ap followed_of (sym c.in-Followed.is) ∙ c.self.view_is))) in
    subst (λ (r : JudgeValue). IfOk c.check.result (λ s. IfUnexplained s (IsInexplicable r c.args.final_word))) same c.check.ensures.unexplained

pub returns-in_ok-of_settled-in-Settled-clause-unexplained : goal.returns-in_ok-of_settled-in-Settled-clause-unexplained
returns-in_ok-of_settled-in-Settled-clause-unexplained g c =
    let same : c.in_ok-of_settled-in-Settled.field-0 ≡ c.args.self.now.judge =
    c.in_ok-of_settled-in-Settled.ensures ∙ (sym (settled_judge c.self.inside.kept c.in-Settled.settled c.in-Settled.is) ∙ ap (λ (f : FollowedValue). f.judge) c.self.view_is) in
    subst (λ (r : JudgeValue). IfOk c.check-in-Settled-2.result (λ s. IfUnexplained s (IsInexplicable r c.args.final_word))) same c.check-in-Settled-2.ensures.unexplained
