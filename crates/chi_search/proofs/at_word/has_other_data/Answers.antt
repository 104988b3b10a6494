-- of a word that it fits each bit of the operand is that of the reply
use Rattle.std.proofs.Common.{◌∙◌, Some, sym, ap}
use Rattle.chi_search.specs.Effects.{Agree}
use Rattle.chi_search.proofs.Reach.{differs}
use Rattle.chi_search.proofs.Told.{fits_data, in_word}
use Rattle.chi_search.proofs.WordBits.{agree_to}
use Rattle.chi_search.proofs.at_word.has_other_data.Goals as goal

pub returns-in-CompData : goal.returns-in-CompData
returns-in-CompData c other fits =
    let op = c.args.op.now in
    let lawful = c.operand_mask.ensures.lawful in
    let agree : Agree c.operand_mask.result c.word_in.result c.args.word = λ k one.
    let inside = (c.operand_mask.ensures.bits k).0 one in
    c.word_in.ensures k (in_word op.access k lawful inside) ∙ fits_data op c.in-CompData.lanes lawful (c.in-Some.is ∙ ap Some c.in-CompData.is) c.args.word c.ranges.word.fits fits k inside in
    differs _ other (agree_to c.word_in.result c.args.word c.operand_mask.result agree)
