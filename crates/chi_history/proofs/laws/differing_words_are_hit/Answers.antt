-- The law is a lemma.
use Rattle.chi_history.proofs.WordLemmas.{differs}
use Rattle.chi_history.proofs.laws.differing_words_are_hit.Goals as goal

pub returns : goal.returns
returns c o h x g differ = differs o h x g differ
