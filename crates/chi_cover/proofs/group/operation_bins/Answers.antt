-- one kind more
use Rattle.std.proofs.Common.{[]}
use Rattle.chi_cover.specs.Bins.{all_kinds, kind_bins, operation_bins}
use Rattle.chi_text.proofs.Growing.{all_parts, part_more}
use Rattle.chi_cover.proofs.group.operation_bins.Goals as goal

pub loop-kind-preserved : goal.loop-kind-preserved
loop-kind-preserved c =
    part_more kind_bins [] all_kinds c.loop-kind.kind-index _ c.loop-kind.bins.items c.add_kind.new.to.items c.loop-kind-test.true c.loop-kind.invariant c.in_ok-add_kind.ensures

pub returns : goal.returns
unfolding operation_bins
returns c = all_parts kind_bins [] all_kinds c.loop-kind.kind-index c.loop-kind.bins.items c.loop-kind-test.false c.loop-kind.invariant
