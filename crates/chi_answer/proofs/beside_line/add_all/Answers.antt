-- one part after the other
use Rattle.std.proofs.Common.{append_assoc, append-nil}
use Rattle.chi_answer.specs.BesideLine.{all_line}
use Rattle.chi_answer.proofs.beside_line.add_all.Goals as goal

pub returns : goal.returns
unfolding all_line
returns c = simp (c.in_ok-add_parts.ensures, c.in_ok-add_each.ensures, append_assoc, append-nil) at c.add_parts-2.ensures
