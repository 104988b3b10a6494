-- the words of a region, as a list
use Rattle.std.proofs.Common.{◌≡◌, ℕ, zero, suc, ◌+◌, ◌*◌, ◌<◌, List, length, slice_index, refl, sym, ap, ◌∙◌, arith, ext_get_or}
use Rattle.chi_fields.specs.Extent.{Extent}
use Rattle.chi_lanes.specs.Memory.{Memory, word, word_at}
use Rattle.chi_script.specs.RunText.{granule_words}

-- how many words there are
pub length-granule_words : (m : Memory) (start n : ℕ) → length (granule_words m start n) ≡ n
unfolding granule_words
length-granule_words m start zero = refl
length-granule_words m start (suc n) = ap suc (length-granule_words m (start + 8) n)

-- one of the words
pub get_or-granule_words : (m : Memory) (start n i : ℕ) → i < n → slice_index (granule_words m start n) i ≡ word_at m (start + 8 * i)
unfolding granule_words
get_or-granule_words m start zero i below = absurd (omega arith)
get_or-granule_words m start (suc n) zero below = let at : start + 8 * 0 ≡ start = omega arith in ap (word_at m) (sym at)
get_or-granule_words m start (suc n) (suc i) below =
    let at : start + 8 + 8 * i ≡ start + 8 * suc i = omega arith in
    get_or-granule_words m (start + 8) n i (omega arith) ∙ ap (word_at m) at

-- as many words as granules, each of its granule
pub words_are : (m : Memory) (region : Extent) (words : List ℕ) → length words ≡ region.granules
    → ((g : ℕ) → g < region.granules → slice_index words g ≡ word m region g) → words ≡ granule_words m region.base region.granules
words_are m region words count each =
    ext_get_or 0 words (granule_words m region.base region.granules) (count ∙ sym (length-granule_words m region.base region.granules))
    (λ i below.
    let inside : i < region.granules = rw count at below in
    each i inside ∙ sym (get_or-granule_words m region.base region.granules i inside))
