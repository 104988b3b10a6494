-- each bin has the goal of all
use Rattle.std.proofs.Common.{None, Some, ap, get_or, length, refl, ◌∙◌}
use Rattle.std.proofs.lemmas.List.{length-map}
use Rattle.chi_cover.specs.Bins.{all_bins}
use Rattle.chi_cover.specs.Numbers.{number_of}
use Rattle.chi_cover.specs.Plan.{goal_in}
use Rattle.chi_cover.proofs.Numbered.{at_number, bin_count}
use Rattle.chi_cover.proofs.plan.Plan.of_goal.Goals as goal

pub returns : goal.returns
unfolding goal_in
returns c = record {
  goal = refl;
  rules = c.new.ensures.items;
  each = λ bin there.
      ap (λ goals. get_or goals (number_of bin) None) c.in_ok-same_goals.ensures ∙ at_number (λ b. Some c.args.goal) None bin there;
}

pub invariant_of-result : goal.invariant_of-result
invariant_of-result c = ap length c.in_ok-same_goals.ensures ∙ (length-map all_bins _ ∙ bin_count)
