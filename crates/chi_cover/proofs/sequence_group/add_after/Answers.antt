-- one transaction more
use Rattle.chi_cover.specs.declared.bin.Bin.TheVariants.{Sequence}
use Rattle.chi_cover.specs.Bins.{all_transactions}
use Rattle.chi_cover.proofs.Lists.{all_items, item_more}
use Rattle.chi_cover.proofs.sequence_group.add_after.Goals as goal

pub loop-later-preserved : goal.loop-later-preserved
loop-later-preserved c =
    item_more (Sequence c.args.earlier) c.args.to.now.items all_transactions c.loop-later.later-index _ c.loop-later.to.items c.push.new.self.items c.loop-later-test.true c.loop-later.invariant c.in_ok-push.ensures.items

pub returns : goal.returns
returns c = all_items (Sequence c.args.earlier) c.args.to.now.items all_transactions c.loop-later.later-index c.loop-later.to.items c.loop-later-test.false c.loop-later.invariant
