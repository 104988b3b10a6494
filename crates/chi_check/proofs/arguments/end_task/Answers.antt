-- the task came to its outcome, and what was written is flushed, or not
use Rattle.chi_search.specs.Looks.{IsCutShort}
use Rattle.chi_check.proofs.WatchLemmas.{ended}
use Rattle.chi_check.proofs.arguments.end_task.Goals as goal

pub returns-in-Ok-clause-ends : goal.returns-in-Ok-clause-ends
returns-in-Ok-clause-ends g c =
    ended (IsCutShort g.P.Progress.states g.P.Progress.looked c.do_task.new.progress) (g.G.Sources.holds c.args.machine.now) c.args.task.now _ _ _ _ c.in-Ok.status _ c.in-Ok.ensures.outcome c.flushed_status.ensures.kept c.in-Ok.ensures.status c.flushed_status.ensures.status
