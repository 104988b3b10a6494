-- the parts are the fields
use Rattle.std.proofs.Common.{append_assoc, append-nil}
use Rattle.chi_script.specs.Transcript.{request_text}
use Rattle.chi_watch_text.proofs.waiting_lines.add_fields.Goals as goal

pub returns : goal.returns
unfolding request_text
returns c = simp append_assoc (simp (c.op_name.ensures, append-nil) at c.add_parts.ensures)
