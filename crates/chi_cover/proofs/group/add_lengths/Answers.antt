-- one length more
use Rattle.chi_cover.specs.Bins.{lane_bins, lengths}
use Rattle.chi_text.proofs.Growing.{part_more}
use Rattle.chi_cover.proofs.group.add_lengths.Goals as goal

pub loop-len-preserved : goal.loop-len-preserved
loop-len-preserved c =
    part_more (lane_bins c.args.kind c.args.endian) c.args.to.now.items lengths c.loop-len.len-index _ c.loop-len.to.items c.add_lanes.new.to.items c.loop-len-test.true c.loop-len.invariant c.in_ok-add_lanes.ensures
