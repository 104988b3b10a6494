-- the parts are the line
use Rattle.std.proofs.Common.{append_assoc, append-nil}
use Rattle.chi_script.specs.Transcript.{granule_text}
use Rattle.chi_answer.proofs.witness.add_memory_line.Goals as goal

pub returns : goal.returns
unfolding granule_text
returns c = simp append_assoc (simp append-nil at c.add_parts.ensures)
