-- The words are those of the memory that the serial run leaves.
use Rattle.std.proofs.Common.{rules}
use Rattle.chi_engine.proofs.RunLemmas.{shown_after}
use Rattle.chi_engine.proofs.run.work_all.Goals as goal

pub returns-clause-shown : goal.returns-clause-shown
returns-clause-shown g c =
    shown_after _ _ _ _ _ _ c.snapshot.new.words c.requires.fresh c.in_ok-execute_all.ensures.left c.snapshot.ensures.seen (search rules) c.snapshot.ensures.shown
