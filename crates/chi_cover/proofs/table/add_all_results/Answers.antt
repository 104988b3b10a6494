-- one operation more
use Rattle.chi_fields.specs.Opcode.{all_ops}
use Rattle.chi_cover.specs.Counts.{count_in}
use Rattle.chi_cover.specs.Texts.{op_rows}
use Rattle.chi_text.proofs.Growing.{part_more}
use Rattle.chi_cover.proofs.table.add_all_results.Goals as goal

pub loop-op-preserved : goal.loop-op-preserved
loop-op-preserved c =
    part_more (op_rows (count_in c.args.covered.now)) c.args.to.now.items all_ops c.loop-op.op-index _ c.loop-op.to.items c.add_op_rows.new.to.items c.loop-op-test.true c.loop-op.invariant c.in_ok-add_op_rows.ensures
