-- the parts are the text
use Rattle.std.proofs.Common.{append-nil}
use Rattle.chi_soak.specs.Line.{dropped_text}
use Rattle.chi_soak.proofs.lines.add_dropped.Goals as goal

pub returns : goal.returns
unfolding dropped_text
returns c = simp append-nil at c.add_parts.ensures
