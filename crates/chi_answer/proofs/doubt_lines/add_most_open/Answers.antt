-- the parts are the line
use Rattle.std.proofs.Common.{append_assoc, append-nil}
use Rattle.chi_answer.specs.DoubtLines.{most_open_line}
use Rattle.chi_answer.proofs.doubt_lines.add_most_open.Goals as goal

pub returns : goal.returns
unfolding most_open_line
returns c = simp append_assoc (simp append-nil at c.add_parts.ensures)
