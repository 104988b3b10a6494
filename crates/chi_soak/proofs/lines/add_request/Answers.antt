-- the number, the fields, and the data
use Rattle.std.proofs.Common.{append_assoc, append-nil}
use Rattle.chi_soak.specs.Line.{request_text}
use Rattle.chi_soak.proofs.lines.add_request.Goals as goal

pub returns : goal.returns
unfolding request_text
returns c = simp append_assoc (simp (c.in_ok-add_parts.ensures, c.in_ok-add_fields.ensures, append_assoc, append-nil) at c.add_data.ensures)
