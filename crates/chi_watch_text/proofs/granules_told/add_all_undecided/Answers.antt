-- one granule more
use Rattle.chi_text.proofs.Growing.{part_more}
use Rattle.chi_watch_text.specs.Written.{undecided_text}
use Rattle.chi_watch_text.proofs.granules_told.add_all_undecided.Goals as goal

pub loop-it-preserved : goal.loop-it-preserved
loop-it-preserved c =
    part_more (undecided_text c.args.format c.args.budget) c.args.to.now.items c.args.undecided.now c.loop-it.it-index _ c.loop-it.to.items _ c.loop-it-test.true c.loop-it.invariant
    c.in_ok-add_undecided_at_end.ensures
