-- the parts are the line
use Rattle.std.proofs.Common.{append_assoc, append-nil}
use Rattle.chi_answer.specs.DoubtLines.{explained_to_line}
use Rattle.chi_answer.proofs.doubt_lines.add_explained_to.Goals as goal

pub returns : goal.returns
unfolding explained_to_line
returns c = simp append_assoc (simp append-nil at c.add_parts.ensures)
