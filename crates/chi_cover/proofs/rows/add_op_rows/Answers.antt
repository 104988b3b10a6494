-- one length more
use Rattle.chi_cover.specs.Bins.{lengths}
use Rattle.chi_cover.specs.Counts.{count_in}
use Rattle.chi_cover.specs.Texts.{op_rows, result_row}
use Rattle.chi_text.proofs.Growing.{all_parts, part_more}
use Rattle.chi_cover.proofs.rows.add_op_rows.Goals as goal

pub loop-len-preserved : goal.loop-len-preserved
loop-len-preserved c =
    part_more (result_row (count_in c.args.covered.now) c.args.op) c.args.to.now.items lengths c.loop-len.len-index _ c.loop-len.to.items c.add_result_row.new.to.items c.loop-len-test.true c.loop-len.invariant c.in_ok-add_result_row.ensures

pub returns : goal.returns
unfolding op_rows
returns c = all_parts (result_row (count_in c.args.covered.now) c.args.op) c.args.to.now.items lengths c.loop-len.len-index c.loop-len.to.items c.loop-len-test.false c.loop-len.invariant
