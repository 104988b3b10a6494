-- the operand is within the mask
use Rattle.chi_search.proofs.Leaving.{whole}
use Rattle.chi_search.proofs.outcomes.whole_outcome.Goals as goal

pub returns : goal.returns
returns c =
    whole c.args.op.now c.args.mask c.operand_mask.result c.args.word c.step.result c.operand_mask.ensures.lawful c.operand_mask.ensures.bits c.ranges.mask.fits c.ranges.word.fits
    c.if-operand_mask-mask-ne0.false c.step.ensures.after c.step.ensures.unfit
