-- one transaction more
use Rattle.std.proofs.Common.{[]}
use Rattle.chi_cover.specs.Bins.{all_transactions, line_after_bins}
use Rattle.chi_text.proofs.Growing.{all_parts, part_more}
use Rattle.chi_cover.proofs.sequence_group.line_sequence_bins.Goals as goal

pub loop-earlier-preserved : goal.loop-earlier-preserved
loop-earlier-preserved c =
    part_more line_after_bins [] all_transactions c.loop-earlier.earlier-index _ c.loop-earlier.bins.items c.add_line_after.new.to.items c.loop-earlier-test.true c.loop-earlier.invariant c.in_ok-add_line_after.ensures

pub returns : goal.returns
returns c = all_parts line_after_bins [] all_transactions c.loop-earlier.earlier-index c.loop-earlier.bins.items c.loop-earlier-test.false c.loop-earlier.invariant
