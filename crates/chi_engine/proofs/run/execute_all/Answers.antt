-- The lines are those of the serial run, and the memory is the one that it leaves.
use Rattle.std.proofs.Common.{rules}
use Rattle.chi_engine.proofs.RunLemmas.{cut_after, left_after, told_after}
use Rattle.chi_engine.proofs.run.execute_all.Goals as goal

pub returns-clause-told : goal.returns-clause-told
returns-clause-told g c = told_after c.run_serial.result _ _ _ _ _ _ _ _ c.requires.fresh c.requires.empty (search rules) c.run_serial.ensures.serial

pub returns-clause-left : goal.returns-clause-left
returns-clause-left g c = left_after c.run_serial.result _ _ _ _ _ _ _ _ c.requires.fresh (search rules) c.run_serial.ensures.serial

pub returns-clause-cut : goal.returns-clause-cut
returns-clause-cut g c = cut_after c.run_serial.result _ _ _ _ _ _ _ _ c.requires.fresh c.requires.empty (search rules) c.run_serial.ensures.serial
