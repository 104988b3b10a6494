-- the number, and what completed it
use Rattle.std.proofs.Common.{append_assoc, append-nil}
use Rattle.chi_soak.specs.Line.{reply_text}
use Rattle.chi_soak.proofs.lines.add_reply.Goals as goal

pub returns : goal.returns
unfolding reply_text
returns c = simp append_assoc (simp (c.in_ok-add_parts.ensures, append_assoc, append-nil) at c.add_completion.ensures)
