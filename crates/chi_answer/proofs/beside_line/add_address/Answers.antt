-- the parts are the address after a space
use Rattle.std.proofs.Common.{append-nil}
use Rattle.chi_answer.specs.BesideLine.{address_word}
use Rattle.chi_answer.proofs.beside_line.add_address.Goals as goal

pub returns : goal.returns
unfolding address_word
returns c = simp append-nil at c.add_parts.ensures
