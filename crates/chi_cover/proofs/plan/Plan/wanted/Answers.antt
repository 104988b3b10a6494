-- as many goals as bins that have one
use Rattle.std.proofs.Common.{◌≡◌, ap, count_by, is_some, length, sym, ◌∙◌}
use Rattle.chi_cover.specs.Plan.{PlanValue}
use Rattle.chi_cover.proofs.Numbered.{by_goals}
use Rattle.chi_cover.proofs.plan.Plan.wanted.Goals as goal

pub returns-clause-value : goal.returns-clause-value
returns-clause-value c =
    let plan = c.args.self.now in
    let long : length plan.goals ≡ 1410 = ap (λ (p : PlanValue). length p.goals) (sym c.self.view_is) ∙ c.self.invariant in
    let same = c.deref.ensures.value ∙ ap (λ (p : PlanValue). p.goals) c.self.view_is in
    c.goals_given.ensures ∙ (ap (count_by is_some) same ∙ by_goals is_some plan long)
