-- lists read at an index, after a write and with one item more
use Rattle.std.proofs.Common.{◌≡◌, ◌≢◌, ℕ, zero, suc, ◌⊎◌, inl, inr, List, [], ◌∷◌, ◌++◌, length, replicate, set, slice_index, refl, sym, ap, ◌∙◌, arith}
use Rattle.std.proofs.lemmas.Bool.{cases_lt}
use Rattle.std.proofs.lemmas.List.{get_or-replicate, get_or_past, length-replicate}
use mathlib.Core.Option.{some, some-injective, some-ne-none}
use lib.ListN.{get_elem?}

module _ {A : Type 0} where
  -- an item after a write is the one that was written, or an old one
  pub at_set : (l : List A) (i j : ℕ) (a b : A) → get_elem? (set l i a) j ≡ some b → ((j ≡ i) × (a ≡ b)) ⊎ ((j ≢ i) × (get_elem? l j ≡ some b))
  at_set [] i j a b e = absurd (some-ne-none b (sym e))
  at_set (x ∷ xs) zero zero a b e = inl (refl, some-injective a b e)
  at_set (x ∷ xs) zero (suc j) a b e = inr ((λ h. omega arith), e)
  at_set (x ∷ xs) (suc i) zero a b e = inr ((λ h. omega arith), e)
  at_set (x ∷ xs) (suc i) (suc j) a b e = elim (at_set xs i j a b e) [
    | inl t ↦ inl (ap suc t.0, t.1)
    | inr t ↦ inr ((λ h. t.0 (omega arith)), t.1)
  ]

  -- what was written where there was an item
  pub set_here : (l : List A) (i : ℕ) (a b : A) → get_elem? l i ≡ some b → get_elem? (set l i a) i ≡ some a
  set_here [] i a b e = absurd (some-ne-none b (sym e))
  set_here (x ∷ xs) zero a b e = refl
  set_here (x ∷ xs) (suc i) a b e = set_here xs i a b e

  -- a write elsewhere
  pub set_else : (l : List A) (i j : ℕ) (a : A) → j ≢ i → get_elem? (set l i a) j ≡ get_elem? l j
  set_else [] i j a n = refl
  set_else (x ∷ xs) zero zero a n = absurd (n refl)
  set_else (x ∷ xs) zero (suc j) a n = refl
  set_else (x ∷ xs) (suc i) zero a n = refl
  set_else (x ∷ xs) (suc i) (suc j) a n = set_else xs i j a (λ e. n (ap suc e))

  -- a write of the item that was there
  pub set_again : (l : List A) (i : ℕ) (a : A) → get_elem? l i ≡ some a → set l i a ≡ l
  set_again [] i a e = refl
  set_again (x ∷ xs) zero a e = λ k. sym (some-injective x a e) k ∷ xs
  set_again (x ∷ xs) (suc i) a e = λ k. x ∷ set_again xs i a e k

  -- an item of a list with one more is an old one, or the last
  pub at_end : (l : List A) (a b : A) (j : ℕ) → get_elem? (l ++ a ∷ []) j ≡ some b → (get_elem? l j ≡ some b) ⊎ ((j ≡ length l) × (a ≡ b))
  at_end [] a b zero e = inr (refl, some-injective a b e)
  at_end [] a b (suc j) e = absurd (some-ne-none b (sym e))
  at_end (x ∷ xs) a b zero e = inl e
  at_end (x ∷ xs) a b (suc j) e = elim (at_end xs a b j e) [ inl t ↦ inl t | inr t ↦ inr (ap suc t.0, t.1) ]

  -- an old item of a list with one more
  pub at_longer : (l : List A) (a b : A) (i : ℕ) → get_elem? l i ≡ some b → get_elem? (l ++ a ∷ []) i ≡ some b
  at_longer [] a b i e = absurd (some-ne-none b (sym e))
  at_longer (x ∷ xs) a b zero e = e
  at_longer (x ∷ xs) a b (suc i) e = at_longer xs a b i e

  -- the last item
  pub at_last : (l : List A) (a : A) → get_elem? (l ++ a ∷ []) (length l) ≡ some a
  at_last [] a = refl
  at_last (x ∷ xs) a = at_last xs a

  -- two readings of one index
  pub at_once : (l : List A) (i : ℕ) (a b : A) → get_elem? l i ≡ some a → get_elem? l i ≡ some b → a ≡ b
  at_once l i a b e f = some-injective a b (sym e ∙ f)

-- zeros, however many
pub zeros_are : (count g : ℕ) → slice_index (replicate count 0) g ≡ 0
zeros_are count g = elim (cases_lt g count) [
  | inl inside ↦ get_or-replicate count g 0 0 inside
  | inr past ↦ get_or_past (replicate count 0) g 0 (rw (length-replicate {A = ℕ} count 0) past)
]
