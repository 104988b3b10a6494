-- the parts are the line
use Rattle.std.proofs.Common.{append_assoc, append-nil}
use Rattle.chi_answer.specs.CutShort.{within_line}
use Rattle.chi_answer.proofs.cut_short.add_within.Goals as goal

pub returns : goal.returns
unfolding within_line
returns c = simp append_assoc (simp append-nil at c.add_parts.ensures)
