-- one rule more, and the rules of all
use Rattle.std.proofs.Common.{◌≡◌, ◌≢◌, Err, sym, ◌∙◌}
use Rattle.serde_json.specs.View.{items_view}
use Rattle.chi_plan.specs.Rules.{rules_from}
use Rattle.chi_plan.specs.declared.fault.PlanFault.TheVariants.{Memory}
use Rattle.chi_plan.proofs.Rules.{all_found, none_found, one_found, passed_on, rule_added}
use Rattle.chi_plan.proofs.plan.plan_of.Goals as goal

pub loop-place-preserved : goal.loop-place-preserved
loop-place-preserved c = record {
  planned = rule_added c.args.goal c.in_ok-rule.rule c.loop-place.plan c.add.new.self c.loop-place.invariant.planned c.in_ok-add.ensures.ok;
  read =
      sym (one_found c.loop-place.place c.args.list.now c.index-list-place.result c.loop-place.plan.rules c.add.new.self.rules c.in_ok-rule.rule
      c.loop-place-test.true c.index-list-place.is c.in_ok-rule.ensures.ok c.in_ok-add.ensures.ok.rules)
      ∙ c.loop-place.invariant.read;
}

pub returns-in_err-rule-clause-fault : goal.returns-in_err-rule-clause-fault
returns-in_err-rule-clause-fault c =
    let all = rules_from 1 (items_view c.args.list.now) in
    let fault = c.in_err-rule.field-0.0 in
    passed_on c.from_residual-in_err-rule.result fault (λ f. f ≢ Memory → all ≡ Err f) c.from_residual-in_err-rule.ensures.1
    (λ other. none_found c.loop-place.place c.args.list.now c.index-list-place.result c.loop-place.plan.rules fault all c.loop-place.invariant.read
    c.loop-place-test.true c.index-list-place.is (c.in_err-rule.ensures.fault other))

pub returns-clause-rules : goal.returns-clause-rules
returns-clause-rules c = sym c.loop-place.invariant.read ∙ all_found c.loop-place.place c.args.list.now c.loop-place.plan.rules c.loop-place-test.false
