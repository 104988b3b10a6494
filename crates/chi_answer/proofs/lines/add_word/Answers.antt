-- the parts are the line
use Rattle.std.proofs.Common.{append_assoc, append-nil}
use Rattle.chi_answer.specs.Lines.{word_line}
use Rattle.chi_answer.proofs.lines.add_word.Goals as goal

pub returns : goal.returns
unfolding word_line
returns c = simp append_assoc (simp append-nil at c.add_parts.ensures)
