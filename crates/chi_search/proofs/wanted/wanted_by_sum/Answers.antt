-- a borrow from the other bytes is 0 or 1
use Rattle.std.proofs.Common.{rules}
use Rattle.chi_search.proofs.Wanting.{by_sum}
use Rattle.chi_search.proofs.wanted.wanted_by_sum.Goals as goal

pub returns-clause-wants : goal.returns-clause-wants
returns-clause-wants c =
    by_sum c.args.op.now c.args.word c.args.bits c.args.mask c.operand_mask-operand.result c.in_ok-low.low c.in_ok-high.high
    c.operand_mask-operand.ensures.lawful c.requires.sum c.requires.run c.operand_mask-operand.ensures.bits (search rules) c.ranges.bits.fits
    c.ranges.mask.fits (search rules) (search rules) c.requires.bits c.if-operand-mask-ne0.false c.in_ok-low.ensures.outside c.in_ok-low.ensures.left
    c.in_ok-high.ensures.outside c.in_ok-high.ensures.left
