-- the bits of the rest out of the mask, and a sum that was made once more
use Rattle.chi_search.proofs.Wanting.{left_operand, picked_elsewhere}
use Rattle.chi_search.proofs.wanted.difference.Goals as goal

pub returns-clause-outside : goal.returns-clause-outside
returns-clause-outside c k within out = picked_elsewhere c.args.mask _ c.args.rest k c.ranges.mask.fits within out

pub returns-clause-left : goal.returns-clause-left
returns-clause-left c =
    left_operand c.args.op.now c.args.word c.args.mask c.operand_mask-operand.result _ c.in_ok-left.left c.operand_mask-operand.ensures.bits
    c.in_ok-left.ensures.after c.if-left-word-ne0.false
