-- the number, and the data
use Rattle.std.proofs.Common.{append_assoc, append-nil}
use Rattle.chi_soak.specs.Line.{late_text}
use Rattle.chi_soak.proofs.lines.add_late.Goals as goal

pub returns : goal.returns
unfolding late_text
returns c = simp (c.in_ok-add_parts.ensures, append_assoc, append-nil) at c.add_packet.ensures
