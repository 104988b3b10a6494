-- of words those of some granules
use Rattle.std.proofs.Common.{◌≡◌, ℕ, ◌<◌, ◌==◌, Bool, true, false, cond, filter, List, [], ◌∷◌, ◌++◌, Option, Some, None, is_some, refl, sym, ap, ◌∙◌, eqb-true, true≢false}
use Rattle.std.proofs.lemmas.List.Elements.{All-filter}
use Rattle.chi_trace.specs.declared.words.GranuleWord.{GranuleWord}
use Rattle.chi_trace.specs.Words.{AreInOrder, find_word}

module _ (known : ℕ → Bool) where
  -- they stand in order too
  pub in_order : (words : List GranuleWord) → AreInOrder words → AreInOrder (filter (λ w. known w.granule) words)
  unfolding AreInOrder
  in_order [] is = tt
  in_order (w ∷ words) is = by_test (known w.granule) (in_order words is.1)
    where
      by_test : (b : Bool) → AreInOrder (filter (λ v. known v.granule) words) → AreInOrder (cond b (w ∷ filter (λ v. known v.granule) words) (filter (λ v. known v.granule) words))
      by_test true rest = (All-filter (λ v. known v.granule) (λ v. w.granule < v.granule) words is.0, rest)
      by_test false rest = rest

  -- and the same is found of these granules
  pub found_known : (words : List GranuleWord) (g : ℕ) → find_word (filter (λ w. known w.granule) words) g ≡ cond (known g) (find_word words g) None
  unfolding find_word
  found_known [] g = same (known g) None
    where
      same : (b : Bool) (o : Option ℕ) → o ≡ cond b o o
      same true o = refl
      same false o = refl
  found_known (w ∷ words) g = by_tests (known w.granule) refl (w.granule == g) refl (known g) refl (found_known words g)
    where
      by_tests : (kept : Bool) → known w.granule ≡ kept → (same : Bool) → (w.granule == g) ≡ same → (here : Bool) → known g ≡ here
          → find_word (filter (λ v. known v.granule) words) g ≡ cond here (find_word words g) None
          → find_word (cond kept (w ∷ filter (λ v. known v.granule) words) (filter (λ v. known v.granule) words)) g ≡ cond here (cond same (Some w.word) (find_word words g)) None
      by_tests true k true s true h rest = ap (λ b. cond b (Some w.word) (find_word (filter (λ v. known v.granule) words) g)) s
      by_tests true k true s false h rest = absurd (true≢false (sym k ∙ (ap known (eqb-true w.granule g s) ∙ h)))
      by_tests true k false s here h rest = ap (λ b. cond b (Some w.word) (find_word (filter (λ v. known v.granule) words) g)) s ∙ rest
      by_tests false k true s true h rest = absurd (true≢false (sym h ∙ (ap known (sym (eqb-true w.granule g s)) ∙ k)))
      by_tests false k true s false h rest = rest
      by_tests false k false s here h rest = rest

-- a word more of a granule of which one was told
pub told_again : (words : List GranuleWord) (w : GranuleWord) (g : ℕ) → is_some (find_word words g) ≡ true → find_word (words ++ w ∷ []) g ≡ find_word words g
unfolding find_word
told_again [] w g some = absurd (true≢false (sym some))
told_again (v ∷ words) w g some = by_test (v.granule == g) some (told_again words w g)
  where
    by_test : (b : Bool) → is_some (cond b (Some v.word) (find_word words g)) ≡ true → (is_some (find_word words g) ≡ true → find_word (words ++ w ∷ []) g ≡ find_word words g)
        → cond b (Some v.word) (find_word (words ++ w ∷ []) g) ≡ cond b (Some v.word) (find_word words g)
    by_test true some rest = refl
    by_test false some rest = rest some
