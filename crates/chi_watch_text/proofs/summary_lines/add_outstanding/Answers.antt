-- the parts are the lines
use Rattle.std.proofs.Common.{append_assoc, append-nil}
use Rattle.chi_watch_text.specs.Texts.{outstanding_text}
use Rattle.chi_watch_text.proofs.summary_lines.add_outstanding.Goals as goal

pub returns : goal.returns
unfolding outstanding_text
returns c = simp append_assoc (simp append-nil at c.add_parts.ensures)
