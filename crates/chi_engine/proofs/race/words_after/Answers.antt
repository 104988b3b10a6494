-- the snapshot has the words of the memory at the end of the history
use Rattle.std.proofs.Common.{rules}
use Rattle.chi_engine.proofs.RaceLemmas.{shown_raced}
use Rattle.chi_engine.proofs.race.words_after.Goals as goal

pub returns-clause-shown : goal.returns-clause-shown
returns-clause-shown g c =
    rw (← c.snapshot.ensures.seen) (shown_raced _ c.args.script.now _ c.snapshot.new.words c.requires.opening (search rules) c.snapshot.ensures.shown)
