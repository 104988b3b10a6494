-- the parts are the line
use Rattle.std.proofs.Common.{append_assoc, append-nil}
use Rattle.chi_answer.specs.Lines.{end_line}
use Rattle.chi_answer.proofs.text.add_end.Goals as goal

pub returns : goal.returns
unfolding end_line
returns c = simp append_assoc (simp append-nil at c.add_parts.ensures)
