-- lists that are filtered: told in another order, and what they contain
use Rattle.std.proofs.Common.{◌≡◌, ℕ, zero, suc, ◌<◌, ◌&&◌, Bool, true, false, cond, List, [], ◌∷◌, All, filter, get_or, length, set, swap, refl, ap, arith}
use Rattle.std.specs.Prelude.{IsPermutation}
use Rattle.std.proofs.lemmas.List.Elements.{All-head, All-tail}
use Rattle.std.proofs.lemmas.List.Sorted.{IsPermutation-cons, IsPermutation-keeps, IsPermutation-middle, IsPermutation-refl, IsPermutation-trans}

module _ {X : Type 0} (p : X → Bool) where
  -- what the test keeps of them has the same elements
  abbrev KeepsSame : List X → List X → Type 0
  KeepsSame xs ys = IsPermutation (filter p xs) (filter p ys)

  skip : (x : X) (xs ys : List X) → KeepsSame xs ys → KeepsSame (x ∷ xs) (x ∷ ys)
  skip x xs ys same = by_test (p x)
    where
      by_test : (b : Bool) → IsPermutation (cond b (x ∷ filter p xs) (filter p xs)) (cond b (x ∷ filter p ys) (filter p ys))
      by_test true = IsPermutation-cons x (filter p xs) (filter p ys) same
      by_test false = same

  turn : (x y : X) (xs : List X) → KeepsSame (x ∷ y ∷ xs) (y ∷ x ∷ xs)
  turn x y xs = by_tests (p x) (p y)
    where
      l : List X
      l = filter p xs

      by_tests : (b c : Bool) → IsPermutation (cond b (x ∷ cond c (y ∷ l) l) (cond c (y ∷ l) l)) (cond c (y ∷ cond b (x ∷ l) l) (cond b (x ∷ l) l))
      by_tests true true = IsPermutation-middle (x ∷ []) y l
      by_tests true false = IsPermutation-refl (x ∷ l)
      by_tests false true = IsPermutation-refl (y ∷ l)
      by_tests false false = IsPermutation-refl l

  chain : (xs ys zs : List X) → KeepsSame xs ys → KeepsSame ys zs → KeepsSame xs zs
  chain xs ys zs first second = IsPermutation-trans (filter p xs) (filter p ys) (filter p zs) first second

  to_head : (l : List X) (j : ℕ) (x d : X) → j < length l → KeepsSame (x ∷ l) (get_or l j d ∷ set l j x)
  to_head [] j x d h = absurd (omega arith)
  to_head (y ∷ l) zero x d h = turn x y l
  to_head (y ∷ l) (suc j) x d h =
      chain (x ∷ y ∷ l) (y ∷ x ∷ l) (get_or l j d ∷ y ∷ set l j x) (turn x y l)
      (chain (y ∷ x ∷ l) (y ∷ get_or l j d ∷ set l j x) (get_or l j d ∷ y ∷ set l j x)
      (skip y (x ∷ l) (get_or l j d ∷ set l j x) (to_head l j x d (omega arith))) (turn y (get_or l j d) (set l j x)))

  exchanged : (l : List X) (i j : ℕ) (d : X) → i < length l → j < length l → KeepsSame l (set (set l i (get_or l j d)) j (get_or l i d))
  exchanged [] i j d first second = absurd (omega arith)
  exchanged (x ∷ l) zero zero d first second = IsPermutation-refl (filter p (x ∷ l))
  exchanged (x ∷ l) zero (suc j) d first second = to_head l j x d (omega arith)
  exchanged (x ∷ l) (suc i) zero d first second = to_head l i x d (omega arith)
  exchanged (x ∷ l) (suc i) (suc j) d first second = skip x l (set (set l i (get_or l j d)) j (get_or l i d)) (exchanged l i j d (omega arith) (omega arith))

  swapped : (l : List X) (i j : ℕ) → i < length l → j < length l → KeepsSame l (swap l i j)
  swapped [] i j first second = IsPermutation-refl []
  swapped (x ∷ l) i j first second = exchanged (x ∷ l) i j x first second

  pub IsPermutation-filter : (xs ys : List X) → IsPermutation xs ys → IsPermutation (filter p xs) (filter p ys)
  IsPermutation-filter xs =
      IsPermutation-keeps xs (KeepsSame xs) (IsPermutation-refl (filter p xs))
      (λ l i j first second same. chain xs l (swap l i j) same (swapped l i j first second))

-- where none passes none is kept
pub filter_none : {X : Type 0} (p : X → Bool) (xs : List X) → All (λ x. p x ≡ false) xs → filter p xs ≡ []
filter_none p [] all = refl
filter_none p (x ∷ xs) all = rw (All-head (λ y. p y ≡ false) x xs all) (filter_none p xs (All-tail (λ y. p y ≡ false) x xs all))

-- where each passes all are kept
pub filter_each : {X : Type 0} (p : X → Bool) (xs : List X) → All (λ x. p x ≡ true) xs → filter p xs ≡ xs
filter_each p [] all = refl
filter_each p (x ∷ xs) all = rw (All-head (λ y. p y ≡ true) x xs all) (ap (λ l. x ∷ l) (filter_each p xs (All-tail (λ y. p y ≡ true) x xs all)))

-- two tests one after the other
pub filter_both : {X : Type 0} (p q : X → Bool) (xs : List X) → filter (λ x. p x && q x) xs ≡ filter q (filter p xs)
filter_both p q [] = refl
filter_both {X} p q (x ∷ xs) = by_tests (p x) (q x) refl (filter_both p q xs)
  where
    by_tests : (b c : Bool) → q x ≡ c → filter (λ y. p y && q y) xs ≡ filter q (filter p xs)
        → cond (b && c) (x ∷ filter (λ y. p y && q y) xs) (filter (λ y. p y && q y) xs) ≡ filter q (cond b (x ∷ filter p xs) (filter p xs))
    by_tests true true is rest = rw is (ap (λ l. x ∷ l) rest)
    by_tests true false is rest = rw is rest
    by_tests false c is rest = rest
