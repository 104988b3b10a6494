-- one granule more
use Rattle.std.proofs.Common.{◌≡◌, ◌++◌, subst}
use Rattle.chi_text.proofs.Growing.{part_more}
use Rattle.chi_watch_text.specs.Written.{end_text}
use Rattle.chi_watch.specs.declared.ending.FoundAtEnd.{FoundAtEnd}
use Rattle.chi_watch_text.proofs.granules_told.add_all_at_end.Goals as goal

pub loop-it-preserved : goal.loop-it-preserved
loop-it-preserved c =
    part_more (end_text c.args.format c.args.found.now) c.args.to.now.items c.args.unexplained.now c.loop-it.it-index c.it-item.result c.loop-it.to.items c.add_at_end.new.to.items c.loop-it-test.true c.loop-it.invariant
    (subst (λ (it : FoundAtEnd). c.add_at_end.new.to.items ≡ c.loop-it.to.items ++ (end_text c.args.format c.args.found.now) it) c.it-item.is c.in_ok-add_at_end.ensures)
