-- one part after the other
use Rattle.std.proofs.Common.{append_assoc}
use Rattle.chi_excerpt.specs.Excerpts.{legal_line}
use Rattle.chi_excerpt.proofs.excerpt.add_legal.Goals as goal

pub returns : goal.returns
unfolding legal_line
returns c = simp (c.in_ok-add_parts.ensures, c.in_ok-add_returned.ensures, append_assoc) at c.add_parts-2.ensures
