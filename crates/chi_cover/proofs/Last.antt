-- the last operation with a key
use Rattle.std.proofs.Common.{◌≡◌, ℕ, zero, suc, ◌+◌, ◌-◌, ◌<◌, ◌≤◌, ◌==◌, Bool, true, false, cond, nat_eq, List, [], ◌∷◌, ◌++◌, append-nil, length, IfSome, Option, Some, slice_get, refl, sym, subst, ap, ◌∙◌, arith}
use Rattle.std.specs.HashMap.{Updates}
use Rattle.std.proofs.lemmas.Option.{IfSome_then}
use Rattle.chi_trace.specs.declared.operation.Operation.{Operation}
use Rattle.chi_trace.specs.Explains.{at}
use Rattle.chi_cover.specs.Last.{AreLast, Places}
use Rattle.chi_cover.specs.Sequences.{last_with, places_with}
use Rattle.chi_cover.proofs.Lists.{filter_more}

-- of some places and one more that one is the last
last_push : (js : List ℕ) (i : ℕ) → slice_get (js ++ i ∷ []) (length (js ++ i ∷ []) - 1) ≡ Some i
last_push js i = let long : length (js ++ i ∷ []) - 1 ≡ length js = omega (arith, one_more js) in ap (slice_get (js ++ i ∷ [])) long ∙ at_end js
  where
    one_more : (js : List ℕ) → length (js ++ i ∷ []) ≡ suc (length js)
    one_more [] = refl
    one_more (j ∷ js) = ap suc (one_more js)

    at_end : (js : List ℕ) → slice_get (js ++ i ∷ []) (length js) ≡ Some i
    at_end [] = refl
    at_end (j ∷ js) = at_end js

module _ (key : Operation → ℕ) (trace : List Operation) where
  -- one operation more
  last_more : (k n : ℕ) → last_with key k trace (n + 1) ≡ cond (key (at trace n) == k) (Some n) (last_with key k trace n)
  unfolding last_with
  last_more k n = ap (λ js. slice_get js (length js - 1)) (filter_more (λ j. key (at trace j) == k) n) ∙ by_test (key (at trace n) == k)
    where
      js : List ℕ
      js = places_with key k trace n

      by_test : (test : Bool) → slice_get (js ++ cond test (n ∷ []) []) (length (js ++ cond test (n ∷ []) []) - 1) ≡ cond test (Some n) (slice_get js (length js - 1))
      by_test true = last_push js n
      by_test false = ap (λ js. slice_get js (length js - 1)) (append-nil js)

  -- it is among the first
  first_last : (k n : ℕ) → IfSome (last_with key k trace n) (λ j. j < n)
  unfolding last_with
  first_last k zero = tt
  first_last k (suc n) =
      let next : suc n ≡ n + 1 = omega arith in
      subst (λ m. IfSome (last_with key k trace m) (λ j. j < m)) (sym next)
      (subst (λ last. IfSome last (λ j. j < n + 1)) (sym (last_more k n)) (by_test (key (at trace n) == k) (first_last k n)))
    where
      by_test : (test : Bool) → IfSome (last_with key k trace n) (λ j. j < n) → IfSome (cond test (Some n) (last_with key k trace n)) (λ j. j < n + 1)
      by_test true earlier = let below : n < n + 1 = omega arith in below
      by_test false earlier = IfSome_then (last_with key k trace n) earlier (λ j below. omega (arith, below))

  pub among_first : (k n m : ℕ) (place : Option ℕ) → n ≤ m → place ≡ last_with key k trace n → IfSome place (λ j. j < m)
  among_first k n m place below is =
      IfSome_then place (subst (λ last. IfSome last (λ j. j < n)) (sym is) (first_last k n)) (λ j first. omega (arith, first, below))

  -- what is put at the key of one operation more
  pub last_put : (i : ℕ) (old new : Places) → AreLast key trace i old → Updates nat_eq old new (key (at trace i)) (Some i) → AreLast key trace (i + 1) new
  last_put i old new last put k = put.0 k ∙ (ap (cond (key (at trace i) == k) (Some i)) (last k) ∙ sym (last_more k i))
