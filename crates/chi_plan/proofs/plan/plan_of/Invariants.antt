-- the rules so far, and then those to come
use Rattle.std.proofs.Common.{◌≡◌}
use Rattle.serde_json.specs.View.{items_view}
use Rattle.chi_cover.specs.Plan.{IsPlan}
use Rattle.chi_plan.specs.Rules.{rules_from}
use Rattle.chi_plan.proofs.Rules.{rest_of}
use Rattle.chi_plan.proofs.plan.plan_of.Given as goal

abbrev pub invariant-loop-place : goal.invariant-loop-place
invariant-loop-place l = record {
  planned : IsPlan l.goal l.plan.rules l.plan;
  read : rest_of l.place l.list l.plan.rules ≡ rules_from 1 (items_view l.list);
}
