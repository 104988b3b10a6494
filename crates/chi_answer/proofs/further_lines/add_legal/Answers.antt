-- the parts are the line
use Rattle.std.proofs.Common.{append-nil}
use Rattle.chi_answer.specs.FurtherLines.{explained_line}
use Rattle.chi_answer.proofs.further_lines.add_legal.Goals as goal

pub returns : goal.returns
unfolding explained_line
returns c = rw (← c.legal_words.ensures) (simp append-nil at c.add_parts.ensures)
