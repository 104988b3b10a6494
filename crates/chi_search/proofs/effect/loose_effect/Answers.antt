-- it changes no byte out of its operand
use Rattle.chi_search.proofs.Effects.{loose}
use Rattle.chi_search.proofs.effect.loose_effect.Goals as goal

pub returns : goal.returns
returns c = loose c.args.op.now c.operand_mask.result c.operand_mask.ensures.lawful c.operand_mask.ensures.bits
