-- one option more
use Rattle.std.proofs.Common.{ap₂, sym, ◌∙◌}
use Rattle.std.proofs.lemmas.List.Sums.{fold_more}
use Rattle.clap.specs.Simple.{new_app, with_rule}
use Rattle.chi_program.specs.Tasks.{with_option}
use Rattle.chi_program.proofs.task.task_command.Goals as goal

pub loop-option-preserved : goal.loop-option-preserved
loop-option-preserved c =
    c.in_ok-command.ensures.shape c.option_of.ensures.local
    ∙ (ap₂ with_rule c.loop-option.invariant c.option_of.ensures.rule
    ∙ sym (fold_more with_option (new_app c.args.task.now.name.now) c.args.task.now.options.now c.loop-option.option-index _ c.loop-option-test.true))
