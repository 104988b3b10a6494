-- the task with its first options
use Rattle.std.proofs.Common.{◌≡◌, take}
use Rattle.std.specs.Prelude.{fold}
use Rattle.clap.specs.Simple.{app_of, new_app}
use Rattle.chi_program.specs.Tasks.{with_option}
use Rattle.chi_program.proofs.task.task_command.Given as goal

abbrev pub invariant-loop-option : goal.invariant-loop-option
invariant-loop-option l = app_of l.command ≡ fold with_option (new_app l.task.name.now) (take l.option-index l.options)
