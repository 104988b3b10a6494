-- one kind more
use Rattle.chi_cover.specs.Bins.{all_kinds}
use Rattle.chi_cover.specs.Counts.{count_in}
use Rattle.chi_cover.specs.Texts.{kind_rows}
use Rattle.chi_text.proofs.Growing.{all_parts, part_more}
use Rattle.chi_cover.proofs.table.add_all_kinds.Goals as goal

pub loop-kind-preserved : goal.loop-kind-preserved
loop-kind-preserved c =
    part_more (kind_rows (count_in c.args.covered.now)) c.args.to.now.items all_kinds c.loop-kind.kind-index _ c.loop-kind.to.items c.add_kind_rows.new.to.items c.loop-kind-test.true c.loop-kind.invariant c.in_ok-add_kind_rows.ensures

pub returns : goal.returns
returns c =
    all_parts (kind_rows (count_in c.args.covered.now)) c.args.to.now.items all_kinds c.loop-kind.kind-index c.loop-kind.to.items c.loop-kind-test.false c.loop-kind.invariant
