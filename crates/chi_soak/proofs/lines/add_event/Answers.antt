-- the time, what is told, and the end of the line
use Rattle.std.proofs.Common.{append_assoc, append-nil}
use Rattle.chi_soak.specs.Line.{event_line}
use Rattle.chi_soak.proofs.lines.add_event.Goals as goal

pub returns : goal.returns
unfolding event_line
returns c = simp append_assoc (simp (c.in_ok-add_parts.ensures, c.in_ok-add_kind.ensures, append_assoc, append-nil) at c.add_parts-2.ensures)
