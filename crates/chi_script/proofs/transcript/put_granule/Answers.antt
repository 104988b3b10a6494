-- the parts of a memory line are its text
use Rattle.std.proofs.Common.{append_assoc, append-nil}
use Rattle.chi_script.specs.Transcript.{granule_text}
use Rattle.chi_script.proofs.transcript.put_granule.Goals as goal

pub returns : goal.returns
unfolding granule_text
returns g c = simp append_assoc (simp append-nil at c.put_parts.ensures)
