-- the parts are the fields
use Rattle.std.proofs.Common.{append_assoc, append-nil}
use Rattle.chi_script.specs.Transcript.{request_text}
use Rattle.chi_answer.proofs.lines.add_request.Goals as goal

pub returns : goal.returns
unfolding request_text
returns c = simp append_assoc (simp (c.op_name.ensures, c.opcode-opcode.ensures, c.size.ensures, c.addr.ensures.value, append-nil) at c.add_parts.ensures)
