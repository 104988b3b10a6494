-- The law is a lemma.
use Rattle.chi_trace.proofs.Projection.{part_explains}
use Rattle.chi_trace.proofs.laws.parts_explain.Goals as goal

pub returns : goal.returns
returns c opening final_words trace order is_m is explains g = part_explains opening final_words trace order is_m is explains g
