-- the time, and the operation
use Rattle.std.proofs.Common.{append_assoc, append-nil}
use Rattle.chi_answer.specs.Lines.{blamed_line}
use Rattle.chi_answer.proofs.stop_lines.add_blamed.Goals as goal

pub returns : goal.returns
unfolding blamed_line
returns c = simp append_assoc (simp (c.in_ok-add_parts.ensures, append_assoc, append-nil) at c.add_told.ensures)
