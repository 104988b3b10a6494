-- the word of a granule in a list with one word more
use Rattle.std.proofs.Common.{◌≡◌, ℕ, ◌==◌, Bool, true, false, List, [], ◌∷◌, ◌++◌, Option, Some, None, is_some, cond, refl, ap, ◌∙◌, eq-eqb, true≢false}
use Rattle.chi_trace.specs.declared.words.GranuleWord.{GranuleWord}
use Rattle.chi_trace.specs.Words.{find_word}

-- what is told of a granule by two lists of words
told_both : (xs ys : List GranuleWord) (g : ℕ) → find_word xs g ≡ None → find_word (xs ++ ys) g ≡ find_word ys g
unfolding find_word
told_both [] ys g none = refl
told_both (w ∷ xs) ys g none = by_test (w.granule == g) none (told_both xs ys g)
  where
    by_test : (b : Bool) → cond b (Some w.word) (find_word xs g) ≡ None → (find_word xs g ≡ None → find_word (xs ++ ys) g ≡ find_word ys g) → cond b (Some w.word) (find_word (xs ++ ys) g) ≡ find_word ys g
    by_test true some rest = absurd (true≢false (ap is_some some))
    by_test false none rest = rest none

-- a word of another granule
pub told_other : (xs : List GranuleWord) (w : GranuleWord) (g : ℕ) → (w.granule == g) ≡ false → find_word (xs ++ w ∷ []) g ≡ find_word xs g
unfolding find_word
told_other [] w g other = ap (λ (b : Bool). cond b (Some w.word) None) other
told_other (x ∷ xs) w g other = ap (λ (o : Option ℕ). cond (x.granule == g) (Some x.word) o) (told_other xs w g other)

-- and of this one
pub told_own : (xs : List GranuleWord) (w : GranuleWord) → find_word xs w.granule ≡ None → find_word (xs ++ w ∷ []) w.granule ≡ Some w.word
unfolding find_word
told_own xs w none = told_both xs (w ∷ []) w.granule none ∙ ap (λ (b : Bool). cond b (Some w.word) None) (eq-eqb w.granule w.granule refl)
