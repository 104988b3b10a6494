-- one length more
use Rattle.chi_cover.specs.declared.bin.Bin.TheVariants.{Kept}
use Rattle.chi_cover.specs.Bins.{lengths}
use Rattle.chi_cover.proofs.Lists.{all_items, item_more}
use Rattle.chi_cover.proofs.group.add_kept.Goals as goal

pub loop-len-preserved : goal.loop-len-preserved
loop-len-preserved c =
    item_more (Kept c.args.op) c.args.to.now.items lengths c.loop-len.len-index _ c.loop-len.to.items c.push.new.self.items c.loop-len-test.true c.loop-len.invariant c.in_ok-push.ensures.items

pub returns : goal.returns
returns c = all_items (Kept c.args.op) c.args.to.now.items lengths c.loop-len.len-index c.loop-len.to.items c.loop-len-test.false c.loop-len.invariant
