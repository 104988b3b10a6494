-- one task more
use Rattle.std.proofs.Common.{ap₂, get_or, sym, ◌∙◌}
use Rattle.std.proofs.lemmas.List.Sums.{fold_more}
use Rattle.clap.specs.Simple.{App, with_subcommand}
use Rattle.chi_program.specs.Rules.{bare_app}
use Rattle.chi_program.specs.Tasks.{with_task}
use Rattle.chi_program.proofs.CommandLemmas.{third_fails}
use Rattle.chi_program.proofs.TaskLemmas.{is_plain}
use Rattle.chi_program.proofs.command.program_command.Goals as goal

pub loop-task-preserved : goal.loop-task-preserved
loop-task-preserved c =
    c.in_ok-command-2.ensures.shape (third_fails _ _ _ _ (is_plain (get_or c.args.tasks.now c.loop-task.task-index _) _ c.in_ok-task_command.ensures.app))
    ∙ (ap₂ (λ (a : App) (t : App). with_subcommand a t.top) c.loop-task.invariant c.in_ok-task_command.ensures.app
    ∙ sym (fold_more with_task (bare_app c.args.name.now) c.args.tasks.now c.loop-task.task-index _ c.loop-task-test.true))
