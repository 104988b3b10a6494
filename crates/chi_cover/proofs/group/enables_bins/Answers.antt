-- one length more
use Rattle.std.proofs.Common.{[]}
use Rattle.chi_cover.specs.Bins.{enables_of, lengths}
use Rattle.chi_text.proofs.Growing.{all_parts, part_more}
use Rattle.chi_cover.proofs.group.enables_bins.Goals as goal

pub loop-len-preserved : goal.loop-len-preserved
loop-len-preserved c =
    part_more enables_of [] lengths c.loop-len.len-index _ c.loop-len.bins.items c.add_enables.new.to.items c.loop-len-test.true c.loop-len.invariant c.in_ok-add_enables.ensures

pub returns : goal.returns
returns c = all_parts enables_of [] lengths c.loop-len.len-index c.loop-len.bins.items c.loop-len-test.false c.loop-len.invariant
