-- it fits no word with another operand, and leaves the same operand of each
use Rattle.chi_search.proofs.Effects.{told}
use Rattle.chi_search.proofs.effect.told_effect.Goals as goal

pub returns : goal.returns
returns c =
    told c.args.op.now c.args.lanes c.word_in-found.result c.in_ok-left.left c.operand_mask-mask.result
    c.operand_mask-mask.ensures.lawful c.requires.reply c.word_in-found.type_inv
    c.in_ok-left.ensures.fits c.in_ok-left.ensures.after c.operand_mask-mask.ensures.bits
