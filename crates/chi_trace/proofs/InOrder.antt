-- words in the order of their granules, and what a search among them finds
use Rattle.std.proofs.Common.{◌≡◌, ℕ, zero, suc, ◌+◌, ◌-◌, ◌<◌, ◌≤◌, ◌==◌, false, cond, List, [], ◌∷◌, All, length, get_or, Some, None, Result, Ok, Err, refl, sym, ap, ◌∙◌, inl, inr, arith, add-one}
use Rattle.std.specs.List.Sorted.{IsSearchInRange, IsBinarySearchResult, IsNonDecreasingBy}
use Rattle.std.specs.Ordering.{nat_cmp, ordering_index}
use Rattle.std.specs.Result.{MatchResult}
use Rattle.std.proofs.lemmas.Bool.{cases_lt, eq-eqb, ne_eqb}
use Rattle.std.proofs.lemmas.Bool.Decides.{nat_tests}
use Rattle.std.proofs.lemmas.Cmp.{ranked}
use Rattle.chi_trace.specs.declared.words.GranuleWord.{GranuleWord}
use Rattle.chi_trace.specs.Words.{AreInOrder, find_word}
use Rattle.chi_trace.proofs.Memory.{none_told}

-- each granule comes before those that stand after it, not only before the next
pub AreInOrder-far : (words : List GranuleWord) → AreInOrder words → (i j : ℕ) (d : GranuleWord) → i < j → j < length words
    → (get_or words i d).granule < (get_or words j d).granule
unfolding AreInOrder
AreInOrder-far [] is i j d less under = absurd (omega arith)
AreInOrder-far (w ∷ words) is i zero d less under = absurd (omega arith)
AreInOrder-far (w ∷ words) is zero (suc j) d less under = let rest : j < length words = omega arith in is.0 j d rest
AreInOrder-far (w ∷ words) is (suc i) (suc j) d less under =
    let rest : j < length words = omega arith in
    let before : i < j = omega arith in
    AreInOrder-far words is.1 i j d before rest

from_far : (words : List GranuleWord) → ((i j : ℕ) (d : GranuleWord) → i < j → j < length words → (get_or words i d).granule < (get_or words j d).granule)
    → AreInOrder words
unfolding AreInOrder
from_far [] far = tt
from_far (w ∷ words) far = (λ k d under. far 0 (suc k) d (omega arith) (omega arith), from_far words (λ i j d less under. far (suc i) (suc j) d (omega arith) (omega arith)))

-- each granule up to this place comes before the next
abbrev pub AreRising : List GranuleWord → ℕ → Type 0
AreRising words high = (k : ℕ) (d : GranuleWord) → k + 1 < high → (get_or words k d).granule < (get_or words (k + 1) d).granule

-- one more that comes after the one before it
pub AreRising-more : (words : List GranuleWord) (i : ℕ) → AreRising words i → (0 < i → (d : GranuleWord) → (get_or words (i - 1) d).granule < (get_or words i d).granule)
    → AreRising words (i + 1)
AreRising-more words i rising next k d under = elim (cases_lt (k + 1) i) [
  | inl before ↦ rising k d before
  | inr past ↦
      let here : k + 1 ≡ i = omega arith in
      let back : i - 1 ≡ k = omega arith in
      rw (here, ← back) (next (omega arith) d)
]

pub AreInOrder-from_rising : (words : List GranuleWord) → AreRising words (length words) → AreInOrder words
AreInOrder-from_rising words rising = from_far words far
  where
    far : (i j : ℕ) (d : GranuleWord) → i < j → j < length words → (get_or words i d).granule < (get_or words j d).granule
    far i zero d less under = absurd (omega arith)
    far i (suc j) d less under =
        let next : (get_or words j d).granule < (get_or words (suc j) d).granule = rw (← add-one j) (rising j d (omega arith)) in
        elim (cases_lt i j) [
          | inl before ↦ let rest : j < length words = omega arith in omega (arith, far i j d before rest)
          | inr past ↦ let here : i ≡ j = omega arith in rw here next
        ]

-- the word at a place is told of its granule
pub told_at : (words : List GranuleWord) (i : ℕ) (d : GranuleWord) → AreInOrder words → i < length words
    → find_word words (get_or words i d).granule ≡ Some (get_or words i d).word
unfolding find_word AreInOrder
told_at [] i d is under = absurd (omega arith)
told_at (w ∷ words) zero d is under = ap (λ b. cond b (Some w.word) (find_word words w.granule)) (eq-eqb w.granule w.granule refl)
told_at (w ∷ words) (suc i) d is under =
    let rest : i < length words = omega arith in
    let less : w.granule < (get_or words i d).granule = is.0 i d rest in
    let granule : ℕ = (get_or words i d).granule in
    ap (λ b. cond b (Some w.word) (find_word words granule)) (ne_eqb w.granule granule (λ same. absurd (omega arith)))
    ∙ told_at words i d is.1 rest

module _ (words : List GranuleWord) (is : AreInOrder words) (g : ℕ) where
  comparisons_rise : IsNonDecreasingBy (λ (w : GranuleWord). ordering_index (nat_cmp w.granule g)) words
  comparisons_rise i j d le under =
      let rise : (get_or words i d).granule ≤ (get_or words j d).granule =
      grind (arith, AreInOrder-far words is i j d, λ (same : i ≡ j). ap (λ k. (get_or words k d).granule) same) in
      grind (arith, nat_tests)

  -- a search by the granule finds the word that is told of it, where one is
  pub searched : (r : Result ℕ ℕ) → IsSearchInRange r (length words) → IsBinarySearchResult (λ (w : GranuleWord). nat_cmp w.granule g) words r
      → MatchResult r (λ i. (d : GranuleWord) → find_word words g ≡ Some (get_or words i d).word) (λ i. find_word words g ≡ None)
  searched (Ok at) inside equal =
      λ d. rw (← ranked (get_or words at d).granule g _ (sym (equal d))) (told_at words at d is inside)
  searched (Err at) inside parted = none_told words g other
    where
      other : All (λ w. (w.granule == g) ≡ false) words
      other k d under = elim (cases_lt k at) [
        | inl before ↦ let less : (get_or words k d).granule < g = ranked _ g _ (sym ((parted comparisons_rise).0 k d (omega arith) before)) in ne_eqb _ g (λ same. omega arith)
        | inr past ↦ let more : g < (get_or words k d).granule = ranked _ g _ (sym ((parted comparisons_rise).1 k d past under)) in ne_eqb _ g (λ same. omega arith)
      ]
