-- the program with its first tasks
use Rattle.std.proofs.Common.{◌≡◌, take}
use Rattle.std.specs.Prelude.{fold}
use Rattle.clap.specs.Simple.{app_of}
use Rattle.chi_program.specs.Rules.{bare_app}
use Rattle.chi_program.specs.Tasks.{with_task}
use Rattle.chi_program.proofs.command.program_command.Given as goal

abbrev pub invariant-loop-task : goal.invariant-loop-task
invariant-loop-task l = app_of l.command ≡ fold with_task (bare_app l.name) (take l.task-index l.tasks)
