-- the text so far
use Rattle.std.proofs.Common.{◌≡◌, ◌++◌, flat_map, take}
use Rattle.chi_cover.specs.Json.{further}
use Rattle.chi_cover.specs.PlanJson.{rule_json}
use Rattle.chi_cover.proofs.plan_json.add_further_rules.Given as goal

abbrev pub invariant-loop-rule : goal.invariant-loop-rule
invariant-loop-rule l = l.to.items ≡ l.initial.to.items ++ flat_map (further rule_json) (take l.rule-index l.rules)
