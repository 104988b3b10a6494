-- words that are told, and one more
use Rattle.std.proofs.Common.{◌≡◌, ◌≢◌, ℕ, ◌+◌, ◌≤◌, ◌<◌, ◌==◌, Bool, true, false, cond, List, [], ◌∷◌, ◌++◌, length, take, get_or, Option, Some, None, refl, sym, ap, ◌∙◌, arith, length-take-le}
use Rattle.std.specs.Ordering.{is_eq, nat_cmp}
use Rattle.std.proofs.lemmas.Bool.{eqb-false, eqb-true, ne_eqb}
use Rattle.std.proofs.lemmas.Bool.Decides.{nat_tests}
use Rattle.std.proofs.lemmas.List.{take_more}
use Rattle.chi_reading.specs.Told.{region_words}
use Rattle.chi_trace.specs.declared.words.GranuleWord.{GranuleWord}
use Rattle.chi_trace.specs.Words.{find_word}

-- one more word, of a granule that none was told of
told_push : (seen : List GranuleWord) (w : GranuleWord) (g : ℕ) → find_word seen w.granule ≡ None
    → find_word (seen ++ w ∷ []) g ≡ cond (w.granule == g) (Some w.word) (find_word seen g)
unfolding find_word
told_push [] w g new = refl
told_push (x ∷ seen) w g new = by_test (x.granule == g) refl (x.granule == w.granule) refl new (told_push seen w g)
  where
    by_test : (b : Bool) → (x.granule == g) ≡ b → (c : Bool) → (x.granule == w.granule) ≡ c → cond c (Some x.word) (find_word seen w.granule) ≡ None
        → (find_word seen w.granule ≡ None → find_word (seen ++ w ∷ []) g ≡ cond (w.granule == g) (Some w.word) (find_word seen g))
        → cond b (Some x.word) (find_word (seen ++ w ∷ []) g) ≡ cond (w.granule == g) (Some w.word) (cond b (Some x.word) (find_word seen g))
    by_test b here true same none more = cc none
    by_test true here false other none more =
        let apart : w.granule ≢ g = λ same. eqb-false x.granule w.granule other (eqb-true x.granule g here ∙ sym same) in
        rw (ne_eqb w.granule g apart) refl
    by_test false here false other none more = more none

-- a map that has the words has the one more, once it is put there
pub has_more : (seen : List GranuleWord) (w : GranuleWord) (g : ℕ) (old new : Option ℕ) → find_word seen w.granule ≡ None → old ≡ find_word seen g
    → new ≡ cond (is_eq (nat_cmp w.granule g)) (Some w.word) old → new ≡ find_word (seen ++ w ∷ []) g
has_more seen w g old new none had put =
    let same : is_eq (nat_cmp w.granule g) ≡ (w.granule == g) = grind (arith, nat_tests) in
    put ∙ (ap (λ o. cond (is_eq (nat_cmp w.granule g)) (Some w.word) o) had ∙ (ap (λ b. cond b (Some w.word) (find_word seen g)) same ∙ sym (told_push seen w g none)))

-- no word of a granule past those of a region
none_past : (words : List ℕ) (first g : ℕ) → first + length words ≤ g → find_word (region_words first words) g ≡ None
unfolding find_word region_words
none_past [] first g past = refl
none_past (word ∷ words) first g past =
    let apart : first ≢ g = λ same. omega arith in
    rw (ne_eqb first g apart) (none_past words (first + 1) g (omega arith))

-- one more word of a region
region_words-push : (words : List ℕ) (first word : ℕ)
    → region_words first (words ++ word ∷ []) ≡ region_words first words ++ record { granule = first + length words; word = word } ∷ []
unfolding region_words
region_words-push [] first word = let at : first ≡ first + 0 = omega arith in ap (λ g. record { granule = g; word = word } ∷ []) at
region_words-push (x ∷ words) first word =
    let at : first + 1 + length words ≡ first + length (x ∷ words) = omega arith in
    ap (λ rest. record { granule = first; word = x } ∷ rest)
    (region_words-push words (first + 1) word ∙ ap (λ g. region_words (first + 1) words ++ record { granule = g; word = word } ∷ []) at)

-- the words of a region so far, and one more
region_words_more : (words : List ℕ) (first i : ℕ) → i < length words
    → region_words first (take (i + 1) words) ≡ region_words first (take i words) ++ record { granule = first + i; word = get_or words i 0 } ∷ []
region_words_more words first i under =
    ap (region_words first) (take_more words i 0 under)
    ∙ (region_words-push (take i words) first (get_or words i 0)
    ∙ ap (λ n. region_words first (take i words) ++ record { granule = first + n; word = get_or words i 0 } ∷ []) (length-take-le i words (omega arith)))

-- a map that has the words of a region so far has the next one, once it is put there
pub has_next : (words : List ℕ) (first i granule g : ℕ) (old new : Option ℕ) → i < length words → granule ≡ first + i
    → old ≡ find_word (region_words first (take i words)) g → new ≡ cond (is_eq (nat_cmp granule g)) (Some (get_or words i 0)) old
    → new ≡ find_word (region_words first (take (i + 1) words)) g
has_next words first i granule g old new under at had put =
    let front : first + length (take i words) ≤ first + i = rw (length-take-le i words (omega arith)) (omega arith) in
    has_more (region_words first (take i words)) (record { granule = first + i; word = get_or words i 0 }) g old new
    (none_past (take i words) first (first + i) front) had (rw (← at) put)
    ∙ ap (λ ws. find_word ws g) (sym (region_words_more words first i under))
