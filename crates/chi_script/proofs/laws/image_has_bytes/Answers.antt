-- The law is a lemma.
use Rattle.chi_script.proofs.ImageLemmas.{words_have_bytes}
use Rattle.chi_script.proofs.laws.image_has_bytes.Goals as goal

pub returns : goal.returns
returns c = words_have_bytes
