-- The program has its three tasks.
use Rattle.std.proofs.Common.{refl}
use Rattle.chi_home.proofs.CommandLemmas.{program_made, program_of, task_of, with_tasks}
use Rattle.chi_home.proofs.command.whole_command.Goals as goal

pub returns-clause-app : goal.returns-clause-app
unfolding program_of with_tasks task_of
returns-clause-app c = program_made c.program_command.result (record { stores = _; policies = _; formats = _ }) (record { stores = _; policies = _; formats = _ })
    (record { stores = refl; policies = refl; formats = refl }) (record { stores = refl; policies = refl; formats = refl }) c.program_command.ensures.app
