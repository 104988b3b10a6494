-- the standard input was counted, or was not
use Rattle.chi_cover.specs.Plan.{goal_in}
use Rattle.chi_check.proofs.CoverLemmas.{input_counted, one_counted}
use Rattle.chi_check.proofs.inputs.input_counted.Goals as goal

pub returns-in-Ok-add_input-clause-counts : goal.returns-in-Ok-add_input-clause-counts
returns-in-Ok-add_input-clause-counts g c =
    input_counted (goal_in c.args.plan.now) c.args.options.now.lines _ c.in_ok-input.input.items c.add_input.new.counted c.in_ok-input.ensures.bytes
    (one_counted (goal_in c.args.plan.now) c.args.options.now.lines c.in_ok-input.input.items c.in-Ok.counted c.add_input.new.counted (record { covered = c.in-Ok.ensures.covered; refused = c.in-Ok.ensures.refused; added = c.in-Ok.ensures.added }) c.in_ok-input.ensures.within (rw c.deref.ensures.value at c.in-Ok-add_input.ensures.added))
