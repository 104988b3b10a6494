-- one line more
use Rattle.chi_answer.specs.Witnesses.{memory_line}
use Rattle.chi_text.proofs.Growing.{part_more}
use Rattle.chi_answer.proofs.witness.add_memory.Goals as goal

pub loop-told-preserved : goal.loop-told-preserved
loop-told-preserved c =
    part_more memory_line c.args.to.now.items c.args.words.now c.loop-told.told-index (record { granule = 0; word = 0 }) c.loop-told.to.items _ c.loop-told-test.true c.loop-told.invariant c.in_ok-add_memory_line.ensures
