-- the memory that words of granules make
use Rattle.std.proofs.Common.{◌≡◌, ℕ, ◌+◌, ◌*◌, ◌/◌, ◌%◌, ◌^◌, ◌<◌, ◌==◌, Bool, true, false, cond, List, [], ◌∷◌, All, Some, None, refl, sym, ap, ◌∙◌, arith, ext_get_or, mod-eq_of_lt, lit<}
use Rattle.std.specs.Option.{unwrap_or}
use Rattle.std.proofs.lemmas.List.Elements.{All-head, All-tail}
use Rattle.chi_lanes.specs.Bytes.{little, little_bytes}
use Rattle.chi_lanes.specs.Memory.{IsMemory, bytes_from, word_at}
use Rattle.chi_lanes.proofs.Digits.{length-little_bytes, little_little_bytes}
use Rattle.chi_lanes.proofs.MaskedBytes.{slice_index-little_bytes}
use Rattle.chi_lanes.proofs.MemoryLemmas.{get_or-bytes_from, length-bytes_from}
use Rattle.chi_trace.specs.Explains.{word_of}
use Rattle.chi_trace.specs.declared.words.GranuleWord.{GranuleWord}
use Rattle.chi_trace.specs.Words.{AreWords, find_word, memory_of, word_or_zero}

-- of a granule that no word names none is told
pub none_told : (words : List GranuleWord) (g : ℕ) → All (λ w. (w.granule == g) ≡ false) words → find_word words g ≡ None
unfolding find_word
none_told [] g none = refl
none_told (w ∷ words) g none =
    ap (λ b. cond b (Some w.word) (find_word words g)) (All-head (λ w. (w.granule == g) ≡ false) w words none)
    ∙ none_told words g (All-tail (λ w. (w.granule == g) ≡ false) w words none)

-- a word that is told has eight bytes
pub word_or_zero-below : (words : List GranuleWord) (g : ℕ) → AreWords words → word_or_zero words g < 2 ^ 64
unfolding find_word
word_or_zero-below [] g are = lit< tt
word_or_zero-below (w ∷ words) g are =
    by_test (w.granule == g) (All-head (λ w. w.word < 2 ^ 64) w words are) (word_or_zero-below words g (All-tail (λ w. w.word < 2 ^ 64) w words are))
  where
    by_test : (b : Bool) → w.word < 2 ^ 64 → word_or_zero words g < 2 ^ 64 → unwrap_or (cond b (Some w.word) (find_word words g)) 0 < 2 ^ 64
    by_test true own rest = own
    by_test false own rest = rest

pub IsMemory-memory_of : (words : List GranuleWord) → IsMemory (memory_of words)
IsMemory-memory_of words x = omega arith

-- a byte of a granule
byte_told : (words : List GranuleWord) (g k : ℕ) → k < 8 → memory_of words (8 * g + k) ≡ word_or_zero words g / 256 ^ k % 256
byte_told words g k below =
    let granule : (8 * g + k) / 8 ≡ g = omega arith in
    let byte : (8 * g + k) % 8 ≡ k = omega arith in
    λ i. word_or_zero words (granule i) / 256 ^ byte i % 256

-- its granules have the words that are told
pub word_of-memory_of : (words : List GranuleWord) (g : ℕ) → AreWords words → word_of (memory_of words) g ≡ word_or_zero words g
unfolding word_at
word_of-memory_of words g are =
    let run : List ℕ = bytes_from (memory_of words) (8 * g) 8 in
    let spelled : run ≡ little_bytes 8 (word_or_zero words g) =
    ext_get_or 0 run (little_bytes 8 (word_or_zero words g))
    (length-bytes_from (memory_of words) (8 * g) 8 ∙ sym (length-little_bytes 8 (word_or_zero words g)))
    (λ k inside.
    let below : k < 8 = rw (length-bytes_from (memory_of words) (8 * g) 8) at inside in
    get_or-bytes_from (memory_of words) (8 * g) 8 k below
    ∙ (byte_told words g k below ∙ sym (slice_index-little_bytes 8 (word_or_zero words g) k below))) in
    ap little spelled ∙ (little_little_bytes 8 (word_or_zero words g) ∙ mod-eq_of_lt (word_or_zero-below words g are))
