-- the rule, by how many bins fit
use Rattle.std.proofs.Common.{◌≡◌, ap, sym, ◌∙◌}
use Rattle.chi_cover.specs.Plan.{RuleValue, bins_fitting}
use Rattle.chi_plan.proofs.Rules.{fitting_rule, no_bin}
use Rattle.chi_plan.proofs.plan.rule_at.Goals as goal

pub returns-then-branch-eq0-clause-fault : goal.returns-then-branch-eq0-clause-fault
returns-then-branch-eq0-clause-fault c other =
    let same = c.deref.ensures.value ∙ ap (λ (r : RuleValue). r.bins) c.rule.view_is in
    let none = sym (c.in_ok-bins_fitting.ensures ∙ ap bins_fitting same) ∙ c.if-branch-eq0.true in
    no_bin c.args.number _ _ c.in-Ok.rule (sym (rw c.in-Some.is at c.as_object.ensures)) c.in-Ok.ensures.ok none

pub returns-clause-ok : goal.returns-clause-ok
returns-clause-ok c =
    let same = c.deref.ensures.value ∙ ap (λ (r : RuleValue). r.bins) c.rule.view_is in
    let some : bins_fitting c.in-Ok.rule.bins ≡ 0 → ⊥ = λ none. c.if-branch-eq0.false (c.in_ok-bins_fitting.ensures ∙ (ap bins_fitting same ∙ none)) in
    fitting_rule c.args.number _ _ c.in-Ok.rule (sym (rw c.in-Some.is at c.as_object.ensures)) c.in-Ok.ensures.ok some
