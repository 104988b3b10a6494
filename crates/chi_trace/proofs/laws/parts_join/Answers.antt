-- The law is a lemma.
use Rattle.chi_trace.proofs.Whole.{parts_join}
use Rattle.chi_trace.proofs.laws.parts_join.Goals as goal

pub returns : goal.returns
returns c opening final_words trace order is_m is places times each = parts_join opening final_words trace order is_m is places times each
