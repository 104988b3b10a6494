-- the text so far
use Rattle.std.proofs.Common.{◌≡◌, ◌++◌, take}
use Rattle.chi_cover.specs.PlanTexts.{rules_text}
use Rattle.chi_cover.proofs.plan_rows.add_rules.Given as goal

abbrev pub invariant-loop-rule : goal.invariant-loop-rule
invariant-loop-rule l = l.to.items ≡ l.initial.to.items ++ rules_text (take l.rule-index l.rules)
