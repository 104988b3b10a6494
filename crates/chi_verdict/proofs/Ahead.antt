-- what stands from a place on, in a list that does not fall by a key
use Rattle.std.proofs.Common.{◌≡◌, ℕ, zero, suc, ◌+◌, ◌<◌, ◌≤◌, List, [], ◌∷◌, All, drop, length, get_or, sym, ap, ◌∙◌, subst, ⊎_elim, ◌-◌, arith}
use Rattle.std.specs.List.Sorted.{IsNonDecreasingBy}
use Rattle.std.proofs.lemmas.Bool.{cases_eq}
use Rattle.std.proofs.lemmas.List.{get_or-drop, length-drop}
use Rattle.chi_trace.specs.declared.words.GranuleWord.{GranuleWord}
use Rattle.chi_trace.specs.Words.{AreInOrder}

-- the element at a place
abbrev pub StandsAt : {X : Type 0} → List X → ℕ → X → Type 0
StandsAt xs i x = (i < length xs) × ((d : _) → x ≡ get_or xs i d)

-- what is true of each from a place on is true of one that stands no earlier
pub of_later : {X : Type 0} (P : X → Type 0) (xs : List X) (i j : ℕ) (x : X) → All P (drop i xs) → i ≤ j → StandsAt xs j x → P x
of_later P xs i j x all le there =
    let further : i + (j - i) ≡ j = omega arith in
    let within : j - i < length (drop i xs) = omega (arith, there.0, length-drop i xs) in
    subst P (get_or-drop i xs (j - i) x ∙ (ap (λ n. get_or xs n x) further ∙ sym (there.1 x))) (all (j - i) x within)

pub of_first : {X : Type 0} (P : X → Type 0) (xs : List X) (i : ℕ) (x : X) → All P (drop i xs) → StandsAt xs i x → P x
of_first P xs i x all there = of_later P xs i i x all (omega arith) there

-- past the end there is none
pub none_left : {X : Type 0} (P : X → Type 0) (xs : List X) (i : ℕ) → length xs ≤ i → All P (drop i xs)
none_left P xs i past k d under = absurd (omega (arith, length-drop i xs))

-- what is below the key of the first is below that of each
pub below_first : {X : Type 0} (key : X → ℕ) (xs : List X) (i : ℕ) (x : X) → IsNonDecreasingBy key xs → StandsAt xs i x → (g : ℕ) → g < key x
    → All (λ y. g < key y) (drop i xs)
below_first key xs i x up there g below k d under =
    let rise : key (get_or xs i d) ≤ key (get_or xs (i + k) d) = up i (i + k) d (omega arith) (omega (arith, length-drop i xs)) in
    let first : g < key (get_or xs i d) = subst (λ y. g < key y) (there.1 d) below in
    subst (λ y. g < key y) (sym (get_or-drop i xs k d)) (omega (arith, rise, first))

-- words in order rise by their granules
pub words_rise : (words : List GranuleWord) → AreInOrder words → (i j : ℕ) (d : GranuleWord) → i < j → j < length words
    → (get_or words i d).granule < (get_or words j d).granule
unfolding AreInOrder
words_rise [] h i j d less within = absurd (omega (arith, within))
words_rise (w ∷ words) h i zero d less within = absurd (omega (arith, less))
words_rise (w ∷ words) h zero (suc j) d less within = h.0 j d (omega (arith, within))
words_rise (w ∷ words) h (suc i) (suc j) d less within = words_rise words h.1 i j d (omega (arith, less)) (omega (arith, within))

-- so they do not fall
pub words_up : (words : List GranuleWord) → AreInOrder words → IsNonDecreasingBy (λ (w : GranuleWord). w.granule) words
words_up words h i j d le within =
    ⊎_elim (λ same. omega (arith, ap (λ k. (get_or words k d).granule) same)) (λ apart. let less = words_rise words h i j d (omega arith) within in omega (arith, less)) (cases_eq i j)

-- and those after a word are of later granules
pub words_after : (words : List GranuleWord) (i : ℕ) (w : GranuleWord) → AreInOrder words → StandsAt words i w
    → All (λ later. w.granule < later.granule) (drop (i + 1) words)
words_after words i w h there k d under =
    let rise : (get_or words i d).granule < (get_or words (i + 1 + k) d).granule = words_rise words h i (i + 1 + k) d (omega arith) (omega (arith, length-drop (i + 1) words)) in
    let first : w.granule < (get_or words (i + 1 + k) d).granule = subst (λ x. x.granule < (get_or words (i + 1 + k) d).granule) (sym (there.1 d)) rise in
    subst (λ x. w.granule < x.granule) (sym (get_or-drop (i + 1) words k d)) first
