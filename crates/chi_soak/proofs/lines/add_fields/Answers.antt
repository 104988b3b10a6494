-- the parts are the text
use Rattle.std.proofs.Common.{append_assoc, append-nil}
use Rattle.chi_soak.specs.Line.{fields_text}
use Rattle.chi_soak.proofs.lines.add_fields.Goals as goal

pub returns : goal.returns
unfolding fields_text
returns c = simp append_assoc (simp (c.byte_order.ensures, append-nil) at c.add_parts.ensures)
