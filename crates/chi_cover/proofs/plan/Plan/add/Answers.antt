-- the rule stands last, and each bin has the goal that it makes
use Rattle.std.proofs.Common.{◌++◌, ◌∷◌, [], None, ap, get_or, length, ◌∙◌}
use Rattle.std.proofs.lemmas.List.{length-map}
use Rattle.chi_cover.specs.Bins.{all_bins}
use Rattle.chi_cover.specs.Numbers.{number_of}
use Rattle.chi_cover.specs.Plan.{PlanValue, goal_by, goal_in}
use Rattle.chi_cover.proofs.Numbered.{at_number, bin_count}
use Rattle.chi_cover.proofs.plan.Plan.add.Goals as goal

pub invariant_of-self-2 : goal.invariant_of-self-2
invariant_of-self-2 c = ap length c.in_ok-goals.ensures ∙ (length-map all_bins _ ∙ bin_count)

pub returns-clause-ok : goal.returns-clause-ok
unfolding goal_in
returns-clause-ok c = record {
  goal = ap (λ (p : PlanValue). p.goal) c.self.view_is;
  rules = c.in_ok-push.ensures.items ∙ ap (λ (p : PlanValue). p.rules ++ c.args.rule ∷ []) c.self.view_is;
  each = λ bin there.
      ap (λ goals. get_or goals (number_of bin) None) c.in_ok-goals.ensures
      ∙ at_number (λ b. goal_by c.args.rule (goal_in c.args.self.now b) b) None bin there;
}
