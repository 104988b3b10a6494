-- the parts are the text
use Rattle.std.proofs.Common.{append_assoc, append-nil}
use Rattle.chi_soak.specs.Line.{granule_text}
use Rattle.chi_soak.proofs.lines.add_word.Goals as goal

pub returns : goal.returns
unfolding granule_text
returns c = simp append_assoc (simp append-nil at c.add_parts.ensures)
