-- the parts of a request are its text
use Rattle.std.proofs.Common.{append_assoc, append-nil}
use Rattle.chi_script.specs.Transcript.{request_text}
use Rattle.chi_script.proofs.transcript.put_request.Goals as goal

pub returns : goal.returns
unfolding request_text
returns g c = simp append_assoc (simp (c.from.ensures, c.from-2.ensures, c.from-3.ensures, c.op_name.ensures, append-nil) at c.put_parts.ensures)
