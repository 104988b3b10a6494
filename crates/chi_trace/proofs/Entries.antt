-- words and the entries of a map from granules
use Rattle.std.proofs.Common.{◌≡◌, ℕ, zero, suc, ◌+◌, ◌<◌, ◌==◌, Bool, true, false, cond, List, [], ◌∷◌, map, length, take, get_or, Some, refl, sym, ap, ◌∙◌, arith, add-one, eqb-true}
use Rattle.std.specs.List.{AllByRecursion}
use Rattle.std.specs.List.Sorted.{IsStrictlySortedBy}
use Rattle.std.specs.Map.{keys_of, lookup}
use Rattle.std.specs.Ordering.{is_eq, nat_cmp}
use Rattle.std.specs.declared.cmp.Ordering.TheVariants.{Less}
use Rattle.std.proofs.lemmas.Bool.Decides.{nat_tests}
use Rattle.std.proofs.lemmas.Cmp.{ranked}
use Rattle.std.proofs.lemmas.List.Elements.{All-from_recursion}
use Rattle.chi_trace.specs.declared.words.GranuleWord.{GranuleWord}
use Rattle.chi_trace.specs.Words.{AreInOrder, find_word}

-- an entry as a word
abbrev pub word_of_entry : ℕ × ℕ → GranuleWord
word_of_entry e = record { granule = e.0; word = e.1 }

-- a map's test of a key is that of a list
pub same_key : (k g : ℕ) → is_eq (nat_cmp k g) ≡ (k == g)
same_key k g = grind (arith, nat_tests)

-- the word that is told is the one that the map has
pub told-entries : (es : List (ℕ × ℕ)) (g : ℕ) → find_word (map word_of_entry es) g ≡ lookup (λ k. is_eq (nat_cmp g k)) es
unfolding find_word
told-entries [] g = refl
told-entries (e ∷ es) g =
    let same : (e.0 == g) ≡ is_eq (nat_cmp g e.0) = grind (arith, nat_tests) in
    ap (λ b. cond b (Some e.1) (find_word (map word_of_entry es) g)) same ∙ ap (λ rest. cond (is_eq (nat_cmp g e.0)) (Some e.1) rest) (told-entries es g)

above : (g : ℕ) (es : List (ℕ × ℕ)) → AllByRecursion (λ k. nat_cmp g k ≡ Less) (keys_of es) → AllByRecursion (λ w. g < w.granule) (map word_of_entry es)
above g [] less = tt
above g (e ∷ es) less = (ranked g e.0 Less (sym less.0), above g es less.1)

-- the keys of a map ascend, and so do the granules
pub AreInOrder-entries : (es : List (ℕ × ℕ)) → IsStrictlySortedBy nat_cmp (keys_of es) → AreInOrder (map word_of_entry es)
unfolding AreInOrder IsStrictlySortedBy
AreInOrder-entries [] sorted = tt
AreInOrder-entries (e ∷ es) sorted = (All-from_recursion (λ w. e.0 < w.granule) (map word_of_entry es) (above e.0 es sorted.0), AreInOrder-entries es sorted.1)

told_suc : (words : List GranuleWord) (i : ℕ) (d : GranuleWord) (g : ℕ) → AreInOrder words → i < length words
    → find_word (take (suc i) words) g ≡ cond ((get_or words i d).granule == g) (Some (get_or words i d).word) (find_word (take i words) g)
unfolding find_word AreInOrder
told_suc [] i d g is under = absurd (omega arith)
told_suc (w ∷ words) zero d g is under = refl
told_suc (w ∷ words) (suc i) d g is under =
    let rest : i < length words = omega arith in
    ap (λ o. cond (w.granule == g) (Some w.word) o) (told_suc words i d g is.1 rest)
    ∙ by_test (w.granule == g) refl ((get_or words i d).granule == g) refl
  where
    by_test : (b : Bool) → (w.granule == g) ≡ b → (c : Bool) → ((get_or words i d).granule == g) ≡ c
        → cond b (Some w.word) (cond c (Some (get_or words i d).word) (find_word (take i words) g)) ≡ cond c (Some (get_or words i d).word) (cond b (Some w.word) (find_word (take i words) g))
    by_test true here true there =
        let rest : i < length words = omega arith in
        absurd (omega (arith, eqb-true w.granule g here, eqb-true (get_or words i d).granule g there, is.0 i d rest))
    by_test true here false there = refl
    by_test false here c there = refl

-- the words told so far, and one more
pub told_more : (words : List GranuleWord) (i : ℕ) (d : GranuleWord) (g : ℕ) → AreInOrder words → i < length words
    → find_word (take (i + 1) words) g ≡ cond ((get_or words i d).granule == g) (Some (get_or words i d).word) (find_word (take i words) g)
told_more words i d g is under = rw (add-one i) (told_suc words i d g is under)
