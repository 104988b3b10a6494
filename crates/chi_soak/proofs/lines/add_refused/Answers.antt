-- the number, and the reason
use Rattle.std.proofs.Common.{append_assoc, append-nil}
use Rattle.chi_soak.specs.Line.{refused_text}
use Rattle.chi_soak.proofs.lines.add_refused.Goals as goal

pub returns : goal.returns
unfolding refused_text
returns c = simp append_assoc (simp (c.in_ok-add_parts.ensures, append_assoc, append-nil) at c.add_reason.ensures)
