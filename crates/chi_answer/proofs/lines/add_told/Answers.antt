-- the fields, what was answered, and the line's end
use Rattle.std.proofs.Common.{append_assoc, append-nil}
use Rattle.chi_answer.specs.Lines.{told_text}
use Rattle.chi_answer.proofs.lines.add_told.Goals as goal

pub returns : goal.returns
unfolding told_text
returns c = simp (c.in_ok-add_request.ensures, c.answered_name.ensures, append_assoc, append-nil) at c.add_parts.ensures
