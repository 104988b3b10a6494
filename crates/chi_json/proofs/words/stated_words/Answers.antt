-- a member that is there has a word for each granule
use Rattle.serde_json.specs.View.{view}
use Rattle.chi_json.proofs.WordLemmas.{length-image_of}
use Rattle.chi_json.proofs.words.stated_words.Goals as goal

pub returns-in_ok-image-in-Some-clause-sized : goal.returns-in_ok-image-in-Some-clause-sized
returns-in_ok-image-in-Some-clause-sized g c = length-image_of c.args.granules (view c.in-Some.value.now) _ c.in_ok-image-in-Some.ensures.ok
