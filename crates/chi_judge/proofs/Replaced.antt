-- an element of a list that is told in another order, and another one in its place
use Rattle.std.proofs.Common.{◌≡◌, ◌≢◌, ℕ, ◌<◌, ◌==◌, Bool, true, false, cond, List, [], ◌∷◌, get_or, length, length-set, set, swap, refl, sym, ap, ap₂, subst, ◌∙◌, arith, eq-eqb, eqb-true, ne_eqb}
use Rattle.std.specs.Prelude.{IsPermutation}
use Rattle.std.proofs.lemmas.Bool.{eqb-false}
use Rattle.std.proofs.lemmas.List.{ext_get_or, get_or-set_other, get_or-set_same, get_or_default}
use Rattle.std.proofs.lemmas.List.Sorted.{IsPermutation-keeps, IsPermutation-refl, IsPermutation-swap, IsPermutation-trans}

module _ {X : Type 0} (d : X) where
  -- what stands at a place once another element stands at some place
  get_set : (l : List X) (i k : ℕ) (a : X) → k < length l → get_or (set l i a) k d ≡ cond (k == i) a (get_or l k d)
  get_set l i k a below = by_test (k == i) refl
    where
      by_test : (b : Bool) → (k == i) ≡ b → get_or (set l i a) k d ≡ cond b a (get_or l k d)
      by_test true is = ap (λ (n : ℕ). get_or (set l i a) n d) (eqb-true k i is) ∙ get_or-set_same l i a d (subst (λ (n : ℕ). n < length l) (eqb-true k i is) below)
      by_test false is = get_or-set_other l i k a d (eqb-false k i is)

  -- the same of three, one after the other
  get_three : (l : List X) (i j q k : ℕ) (a b e : X) → k < length l
      → get_or (set (set (set l i a) j b) q e) k d ≡ cond (k == q) e (cond (k == j) b (cond (k == i) a (get_or l k d)))
  get_three l i j q k a b e below =
      get_set (set (set l i a) j b) q k e (omega (arith, below, length-set (set l i a) j b, length-set l i a))
      ∙ (ap (λ (v : X). cond (k == q) e v) (get_set (set l i a) j k b (omega (arith, below, length-set l i a)))
      ∙ ap (λ (v : X). cond (k == q) e (cond (k == j) b v)) (get_set l i k a below))

  swap_is : (l : List X) (i j : ℕ) → i < length l → j < length l → swap l i j ≡ set (set l i (get_or l j d)) j (get_or l i d)
  swap_is [] i j first second = absurd (omega (arith, first))
  swap_is (e ∷ es) i j first second =
      ap₂ (λ (a b : X). set (set (e ∷ es) i a) j b) (get_or_default (e ∷ es) j e d second) (get_or_default (e ∷ es) i e d first)

  length-three : (l : List X) (i j q : ℕ) (a b e : X) → length (set (set (set l i a) j b) q e) ≡ length l
  length-three l i j q a b e = length-set (set (set l i a) j b) q e ∙ (length-set (set l i a) j b ∙ length-set l i a)

  module _ (x y : X) (rest : List X) where
    -- the element stands in the list, and with the other one in its place the list is told in another order
    abbrev pub IsThere : List X → Type 0
    IsThere l = (q : ℕ) × (q < length l) × (get_or l q d ≡ x) × IsPermutation (y ∷ rest) (set l q y)

    exchanged : (l : List X) (i j : ℕ) → i < length l → j < length l → IsThere l → IsThere (swap l i j)
    exchanged l i j first second (q, within, is, moved) = by_tests (q == i) (q == j) refl refl
      where
        m : List X
        m = set l q y

        s : List X
        s = set (set l i (get_or l j d)) j (get_or l i d)

        long : length s ≡ length l
        long = length-set (set l i (get_or l j d)) j (get_or l i d) ∙ length-set l i (get_or l j d)

        -- the element stands at this place of the list that was exchanged
        there : (p : ℕ) → p < length l → get_or s p d ≡ x
            → ((k : ℕ) → k < length l → cond (k == p) y (cond (k == j) (get_or l i d) (cond (k == i) (get_or l j d) (get_or l k d)))
            ≡ cond (k == j) (cond (i == q) y (get_or l i d)) (cond (k == i) (cond (j == q) y (get_or l j d)) (cond (k == q) y (get_or l k d))))
            → IsThere (swap l i j)
        there p below found each =
            subst IsThere (sym (swap_is l i j first second)) (
              p,
              omega (arith, below, long),
              found,
              IsPermutation-trans (y ∷ rest) m (set s p y) moved
                  (IsPermutation-swap m (set s p y) i j (omega (arith, first, length-set l q y)) (omega (arith, second, length-set l q y))
                  (ext_get_or d (set s p y) (set (set m i (get_or m j d)) j (get_or m i d))
                  (length-three l i j p (get_or l j d) (get_or l i d) y ∙ sym (length-three l q i j y (get_or m j d) (get_or m i d)))
                  (λ k inside.
                  let place : k < length l = omega (arith, inside, length-three l i j p (get_or l j d) (get_or l i d) y) in
                  get_three l i j p k (get_or l j d) (get_or l i d) y place
                  ∙ (each k place
                  ∙ sym (get_three l q i j k y (get_or m j d) (get_or m i d) place
                  ∙ ap₂ (λ (a b : X). cond (k == j) a (cond (k == i) b (cond (k == q) y (get_or l k d)))) (get_set l q i y first) (get_set l q j y second))))
                  ∙ sym (swap_is m i j (omega (arith, first, length-set l q y)) (omega (arith, second, length-set l q y))))),
            )

        li : X
        li = get_or l i d

        lj : X
        lj = get_or l j d

        Same : ℕ → ℕ → Type 0
        Same p k =
            cond (k == p) y (cond (k == j) li (cond (k == i) lj (get_or l k d)))
            ≡ cond (k == j) (cond (i == q) y li) (cond (k == i) (cond (j == q) y lj) (cond (k == q) y (get_or l k d)))

        -- it stood at the first place
        from_first : q ≡ i → (k : ℕ) → Same j k
        from_first at k = by (k == j) (k == i) refl refl
          where
            by : (b a : Bool) → (k == j) ≡ b → (k == i) ≡ a
                → cond b y (cond b li (cond a lj (get_or l k d))) ≡ cond b (cond (i == q) y li) (cond a (cond (j == q) y lj) (cond (k == q) y (get_or l k d)))
            by true a is_j is_i = sym (ap (λ (c : Bool). cond c y li) (eq-eqb i q (sym at)))
            by false true is_j is_i = sym (ap (λ (c : Bool). cond c y lj) (ne_eqb j q (λ same. eqb-false k j is_j (eqb-true k i is_i ∙ sym (same ∙ at)))))
            by false false is_j is_i = sym (ap (λ (c : Bool). cond c y (get_or l k d)) (ne_eqb k q (λ same. eqb-false k i is_i (same ∙ at))))

        -- or at the second
        from_second : q ≢ i → q ≡ j → (k : ℕ) → Same i k
        from_second other at k = by (k == j) (k == i) refl refl
          where
            by : (b a : Bool) → (k == j) ≡ b → (k == i) ≡ a
                → cond a y (cond b li (cond a lj (get_or l k d))) ≡ cond b (cond (i == q) y li) (cond a (cond (j == q) y lj) (cond (k == q) y (get_or l k d)))
            by true true is_j is_i = absurd (other (at ∙ (sym (eqb-true k j is_j) ∙ eqb-true k i is_i)))
            by true false is_j is_i = sym (ap (λ (c : Bool). cond c y li) (ne_eqb i q (λ same. other (sym same))))
            by false true is_j is_i = sym (ap (λ (c : Bool). cond c y lj) (eq-eqb j q (sym at)))
            by false false is_j is_i = sym (ap (λ (c : Bool). cond c y (get_or l k d)) (ne_eqb k q (λ same. eqb-false k j is_j (same ∙ at))))

        -- or at neither
        from_other : q ≢ i → q ≢ j → (k : ℕ) → Same q k
        from_other not_i not_j k = by (k == j) (k == i) (k == q) refl refl refl
          where
            by : (b a e : Bool) → (k == j) ≡ b → (k == i) ≡ a → (k == q) ≡ e
                → cond e y (cond b li (cond a lj (get_or l k d))) ≡ cond b (cond (i == q) y li) (cond a (cond (j == q) y lj) (cond e y (get_or l k d)))
            by true a true is_j is_i is_q = absurd (not_j (sym (eqb-true k q is_q) ∙ eqb-true k j is_j))
            by true a false is_j is_i is_q = sym (ap (λ (c : Bool). cond c y li) (ne_eqb i q (λ same. not_i (sym same))))
            by false true true is_j is_i is_q = absurd (not_i (sym (eqb-true k q is_q) ∙ eqb-true k i is_i))
            by false true false is_j is_i is_q = sym (ap (λ (c : Bool). cond c y lj) (ne_eqb j q (λ same. not_j (sym same))))
            by false false true is_j is_i is_q = refl
            by false false false is_j is_i is_q = refl

        by_tests : (a b : Bool) → (q == i) ≡ a → (q == j) ≡ b → IsThere (swap l i j)
        by_tests true b at_first at_second =
            there j second
            (get_or-set_same (set l i lj) j li d (omega (arith, second, length-set l i lj)) ∙ (ap (λ (n : ℕ). get_or l n d) (sym (eqb-true q i at_first)) ∙ is))
            (λ k below. from_first (eqb-true q i at_first) k)
        by_tests false true at_first at_second =
            there i first
            (get_set (set l i lj) j i li (omega (arith, first, length-set l i lj))
            ∙ (ap (λ (c : Bool). cond c li (get_or (set l i lj) i d)) (ne_eqb i j (λ same. eqb-false q i at_first (eqb-true q j at_second ∙ sym same)))
            ∙ (get_or-set_same l i lj d first ∙ (ap (λ (n : ℕ). get_or l n d) (sym (eqb-true q j at_second)) ∙ is))))
            (λ k below. from_second (eqb-false q i at_first) (eqb-true q j at_second) k)
        by_tests false false at_first at_second =
            there q within
            (get_or-set_other (set l i lj) j q li d (eqb-false q j at_second) ∙ (get_or-set_other l i q lj d (eqb-false q i at_first) ∙ is))
            (λ k below. from_other (eqb-false q i at_first) (eqb-false q j at_second) k)

    -- where the element and the others are told in another order it stands somewhere, and so does another one in its place
    pub replaced : (l : List X) → IsPermutation (x ∷ rest) l → IsThere l
    replaced = IsPermutation-keeps (x ∷ rest) IsThere (0, omega arith, refl, IsPermutation-refl (y ∷ rest)) exchanged
