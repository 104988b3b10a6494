-- the memory of a region's words
use Rattle.std.proofs.Common.{◌≡◌, ℕ, zero, suc, ◌+◌, ◌-◌, ◌*◌, ◌/◌, ◌%◌, ◌^◌, ◌<◌, ◌≤◌, ◌==◌, nat_le, nat_lt, Bool, true, false, List, [], ◌∷◌, length, slice_index, Option, None, Some, IfSome, refl, sym, ap, subst, ◌∙◌, arith, ltb-true}
use Rattle.std.proofs.Math.Nat.{zero-div}
use Rattle.std.proofs.Math.Path.{fun_ext}
use Rattle.std.proofs.lemmas.Bool.{le-leb, ltb-false}
use Rattle.std.proofs.lemmas.Bool.Decides.{nat_tests}
use Rattle.std.specs.Option.{unwrap_or}
use Rattle.chi_fields.specs.Extent.{Extent, IsRegion}
use Rattle.chi_lanes.specs.Memory.{Memory, word_at}
use Rattle.chi_history.specs.History.{image_byte, opening_memory}
use Rattle.chi_history.specs.Openings.{opened}
use Rattle.chi_script.specs.RunText.{granule_words}
use Rattle.chi_script.proofs.GranuleWords.{get_or-granule_words, length-granule_words}
use Rattle.chi_trace.specs.Explains.{word_of}
use Rattle.chi_trace.specs.declared.words.GranuleWord.{GranuleWord}
use Rattle.chi_trace.specs.Words.{find_word, memory_of}
use Rattle.chi_reading.specs.Told.{region_words}

-- no word is told of a granule before a region's first
told_before : (first : ℕ) (words : List ℕ) (g : ℕ) → g < first → find_word (region_words first words) g ≡ None
unfolding find_word region_words
told_before first [] g before = refl
told_before first (word ∷ words) g before =
    let other : (first == g) ≡ false = grind (arith, nat_tests) in
    rw other (told_before (first + 1) words g (omega arith))

-- the words that are told of a region's granules
pub told_in : (first : ℕ) (words : List ℕ) (i : ℕ) → i < length words → find_word (region_words first words) (first + i) ≡ Some (slice_index words i)
unfolding find_word region_words
told_in first [] i inside = absurd (omega arith)
told_in first (word ∷ words) zero inside =
    let here : (first == first + 0) ≡ true = grind (arith, nat_tests) in
    rw here refl
told_in first (word ∷ words) (suc i) inside =
    let other : (first == first + suc i) ≡ false = grind (arith, nat_tests) in
    let next : first + 1 + i ≡ first + suc i = omega arith in
    rw other (ap (find_word (region_words (first + 1) words)) (sym next) ∙ told_in (first + 1) words i (omega arith))

-- none is told past the last
told_past : (first : ℕ) (words : List ℕ) (g : ℕ) → first + length words ≤ g → find_word (region_words first words) g ≡ None
unfolding find_word region_words
told_past first [] g past = refl
told_past first (word ∷ words) g past =
    let other : (first == g) ≡ false = grind (arith, nat_tests) in
    rw other (told_past (first + 1) words g (omega arith))

-- what is told of a granule, by where it lies
by_place : (P : Option ℕ → Type 0) (first : ℕ) (words : List ℕ) (g : ℕ) → (g < first → P None) → ((i : ℕ) → i < length words → g ≡ first + i → P (Some (slice_index words i)))
    → (first + length words ≤ g → P None) → P (find_word (region_words first words) g)
by_place P first words g before inside past = by_tests (nat_lt g first) refl (nat_lt g (first + length words)) refl
  where
    by_tests : (a : Bool) → nat_lt g first ≡ a → (b : Bool) → nat_lt g (first + length words) ≡ b → P (find_word (region_words first words) g)
    by_tests true is b there =
        let below : g < first = ltb-true g first is in
        subst P (sym (told_before first words g below)) (before below)
    by_tests false is true there =
        let above : first ≤ g = ltb-false g first is in
        let below : g < first + length words = ltb-true g (first + length words) there in
        let i : ℕ = g - first in
        let at : first + i ≡ g = omega arith in
        subst P (sym (ap (find_word (region_words first words)) (sym at) ∙ told_in first words i (omega arith))) (inside i (omega arith) (sym at))
    by_tests false is false there =
        let above : first + length words ≤ g = ltb-false g (first + length words) there in
        subst P (sym (told_past first words g above)) (past above)

-- a word at the end that is told is the memory's
pub ending_is : (m : Memory) (region : Extent) (g : ℕ) → IsRegion region
    → IfSome (find_word (region_words (region.base / 8) (granule_words m region.base region.granules)) g) (λ w. word_of m g ≡ w)
ending_is m region g is =
    by_place (λ o. IfSome o (λ w. word_of m g ≡ w)) (region.base / 8) (granule_words m region.base region.granules) g
    (λ before. tt)
    (λ i inside at.
    let count = length-granule_words m region.base region.granules in
    let start : 8 * g ≡ region.base + 8 * i = let line = is.line in omega (arith, line, at) in
    ap (word_at m) start ∙ sym (get_or-granule_words m region.base region.granules i (omega (arith, inside, count))))
    (λ past. tt)

-- a byte of a word that is not told
zero_byte : (x : ℕ) → 0 / 256 ^ (x % 8) % 256 ≡ 0
zero_byte x = ap (λ n. n % 256) (zero-div (256 ^ (x % 8)))

-- the byte at an address in the region
in_region : (region : Extent) (requesters : ℕ) (image : List ℕ) (x : ℕ) → region.base ≤ x → x + 1 ≤ region.base + 8 * region.granules
    → opening_memory (opened region requesters image) x ≡ image_byte image (x - region.base)
in_region region requesters image x above below = rw (le-leb region.base x above, le-leb (x + 1) (region.base + 8 * region.granules) below) refl

-- the byte at another address
below_region : (region : Extent) (requesters : ℕ) (image : List ℕ) (x : ℕ) → x < region.base → opening_memory (opened region requesters image) x ≡ 0
below_region region requesters image x below =
    let not_above : nat_le region.base x ≡ false = grind (arith, nat_tests) in
    rw not_above refl

above_region : (region : Extent) (requesters : ℕ) (image : List ℕ) (x : ℕ) → region.base ≤ x → region.base + 8 * region.granules ≤ x
    → opening_memory (opened region requesters image) x ≡ 0
above_region region requesters image x above past =
    let not_below : nat_le (x + 1) (region.base + 8 * region.granules) ≡ false = grind (arith, nat_tests) in
    rw (le-leb region.base x above, not_below) refl

-- the memory of the words of a region's image is that at the opening
byte_is : (region : Extent) (requesters : ℕ) (image : List ℕ) (words : List GranuleWord) (x : ℕ) → IsRegion region → length image ≡ region.granules
    → ((g : ℕ) → find_word words g ≡ find_word (region_words (region.base / 8) image) g)
    → memory_of words x ≡ opening_memory (opened region requesters image) x
byte_is region requesters image words x is count same =
    ap (λ (o : Option ℕ). unwrap_or o 0 / 256 ^ (x % 8) % 256) (same (x / 8))
    ∙ by_place (λ o. unwrap_or o 0 / 256 ^ (x % 8) % 256 ≡ opening_memory (opened region requesters image) x) (region.base / 8) image (x / 8)
    (λ before. let line = is.line in zero_byte x ∙ sym (below_region region requesters image x (omega (arith, before, line))))
    (λ i inside at.
    let line = is.line in
    let above : region.base ≤ x = omega (arith, at, line) in
    let below : x + 1 ≤ region.base + 8 * region.granules = omega (arith, at, line, inside, count) in
    let place : (x - region.base) / 8 ≡ i = omega (arith, at, line) in
    let lane : (x - region.base) % 8 ≡ x % 8 = omega (arith, at, line) in
    sym (in_region region requesters image x above below ∙ (ap (λ k. slice_index image k / 256 ^ ((x - region.base) % 8) % 256) place
    ∙ ap (λ k. slice_index image i / 256 ^ k % 256) lane)))
    (λ past.
    let line = is.line in
    zero_byte x ∙ sym (above_region region requesters image x (omega (arith, past, line)) (omega (arith, past, line, count))))

pub memory_is : (region : Extent) (requesters : ℕ) (image : List ℕ) (words : List GranuleWord) → IsRegion region → length image ≡ region.granules
    → ((g : ℕ) → find_word words g ≡ find_word (region_words (region.base / 8) image) g)
    → opening_memory (opened region requesters image) ≡ memory_of words
memory_is region requesters image words is count same = fun_ext (λ x. sym (byte_is region requesters image words x is count same))
