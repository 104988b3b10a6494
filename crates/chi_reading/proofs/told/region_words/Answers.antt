-- one more word, of the next granule
use Rattle.std.proofs.Common.{refl, arith}
use Rattle.chi_reading.specs.Told.{region_words}
use Rattle.chi_reading.proofs.OneMore.{has_next}
use Rattle.chi_trace.specs.Words.{find_word}
use Rattle.chi_reading.proofs.told.region_words.Goals as goal

pub loop-word-init : goal.loop-word-init
unfolding find_word region_words
loop-word-init c = record { next = omega arith; has = λ g. rw c.new-map.ensures.empty refl }

pub loop-word-preserved : goal.loop-word-preserved
loop-word-preserved c = record {
  next = omega arith;
  has = λ g. has_next c.args.words.now c.args.first c.loop-word.word-index c.loop-word.granule g _ _ (omega arith) c.loop-word.invariant.next
      (c.loop-word.invariant.has g) (c.in_ok-insert.ensures.updates.0 g);
}
