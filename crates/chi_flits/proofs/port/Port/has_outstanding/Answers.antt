-- what the maps know is what flits say
use Rattle.std.specs.Prelude.{◌||◌}
use Rattle.std.specs.List.{list_any}
use Rattle.std.proofs.Common.{sym, ap, ◌∙◌}
use Rattle.std.proofs.lemmas.Bool.{or_left}
use Rattle.chi_flits.specs.Outstanding.{given_waits, has_outstanding, taken_waits}
use Rattle.chi_flits.proofs.Waits.{answers_waited_for, data_waited_for}
use Rattle.chi_flits.proofs.port.Port.has_outstanding.Goals as goal

pub returns-then-any_waits_for_answer : goal.returns-then-any_waits_for_answer
unfolding has_outstanding
returns-then-any_waits_for_answer c flits seen =
    let any = answers_waited_for c.args.granule flits c.args.self.now seen c.any_waits_for_answer.ensures.found in
    let is = sym any ∙ (sym c.any_waits_for_answer.ensures.any ∙ c.if-any_waits_for_answer.true) in
    c.if-any_waits_for_answer.true ∙ sym (or_left (list_any (λ f. taken_waits c.args.granule flits f.kind) flits) (list_any (λ f. given_waits c.args.granule flits f.kind) flits) is)

pub returns-else-any_waits_for_answer : goal.returns-else-any_waits_for_answer
unfolding has_outstanding
returns-else-any_waits_for_answer c flits seen =
    let none = sym (c.any_waits_for_answer.ensures.any ∙ answers_waited_for c.args.granule flits c.args.self.now seen c.any_waits_for_answer.ensures.found) ∙ c.if-any_waits_for_answer.false in
    let any = c.any_waits_for_data.ensures.any ∙ data_waited_for c.args.granule flits c.args.self.now seen c.any_waits_for_data.ensures.found in
    any ∙ sym (ap (λ b. b || list_any (λ f. given_waits c.args.granule flits f.kind) flits) none)
