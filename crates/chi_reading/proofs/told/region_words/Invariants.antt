-- the words so far, of consecutive granules
use Rattle.std.proofs.Common.{◌≡◌, ℕ, ◌+◌, take}
use Rattle.std.specs.BTreeMap.{get}
use Rattle.std.specs.Ordering.{nat_cmp}
use Rattle.chi_reading.specs.Told.{region_words}
use Rattle.chi_trace.specs.Words.{find_word}
use Rattle.chi_reading.proofs.told.region_words.Given as goal

abbrev pub invariant-loop-word : goal.invariant-loop-word
invariant-loop-word l = record {
  next : l.granule ≡ l.first + l.word-index;
  has : (g : ℕ) → get nat_cmp l.map g ≡ find_word (region_words l.first (take l.word-index l.words)) g;
}
