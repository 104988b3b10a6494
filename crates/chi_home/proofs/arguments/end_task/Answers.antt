-- the task came to its outcome, and what was written is flushed, or not
use Rattle.chi_home.proofs.Written.{ended}
use Rattle.chi_home.proofs.arguments.end_task.Goals as goal

pub returns-in-Ok-clause-ends : goal.returns-in-Ok-clause-ends
returns-in-Ok-clause-ends g c =
    ended c.args.task c.args.options.now _ _ _ _ c.in-Ok.field-0 _ c.in-Ok.ensures.opening c.flushed_status.ensures.kept c.in-Ok.ensures.outcome c.flushed_status.ensures.status
