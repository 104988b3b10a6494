-- lists of what events tell: the first that a test takes, and the parts that a test makes
use Rattle.std.proofs.Common.{◌≡◌, Bool, true, false, cond, not, List, [], ◌∷◌, ◌++◌, All, Option, Some, None, IfSome, refl}
use Rattle.std.specs.Prelude.{IsPermutation, filter, filter_map}
use Rattle.std.proofs.lemmas.List.Elements.{All-head, All-tail}
use Rattle.std.proofs.lemmas.List.Sorted.{IsPermutation-cons, IsPermutation-middle, IsPermutation-refl, IsPermutation-sym, IsPermutation-trans}
use Rattle.chi_events.specs.Operations.{first}

module _ {X Y : Type 0} (f : X → Option Y) where
  -- what is true of each that is taken is true of the first
  pub first_taken : (P : X → Type 0) (Q : Y → Type 0) → ((x : X) → P x → IfSome (f x) Q) → (xs : List X) → All P xs → IfSome (first (filter_map f xs)) Q
  first_taken P Q each [] all = tt
  first_taken P Q each (x ∷ xs) all = by_case (first_taken P Q each xs (All-tail P x xs all)) (f x) refl (each x (All-head P x xs all))
    where
      by_case : IfSome (first (filter_map f xs)) Q → (o : Option Y) → f x ≡ o → IfSome o Q → IfSome (first (filter_map f (x ∷ xs))) Q
      by_case rest (Some y) is q = rw is q
      by_case rest None is q = rw is rest

  in_front : (x : X) (ws us : List X) (vs : List Y) → IsPermutation (filter_map f ws) (filter_map f us ++ vs) → IsPermutation (filter_map f (x ∷ ws)) (filter_map f (x ∷ us) ++ vs)
  in_front x ws us vs h = by_case (f x) refl
    where
      by_case : (o : Option Y) → f x ≡ o → IsPermutation (filter_map f (x ∷ ws)) (filter_map f (x ∷ us) ++ vs)
      by_case None is = rw is h
      by_case (Some y) is = rw is (IsPermutation-cons y (filter_map f ws) (filter_map f us ++ vs) h)

  in_back : (x : X) (ws vs : List X) (us : List Y) → IsPermutation (filter_map f ws) (us ++ filter_map f vs) → IsPermutation (filter_map f (x ∷ ws)) (us ++ filter_map f (x ∷ vs))
  in_back x ws vs us h = by_case (f x) refl
    where
      by_case : (o : Option Y) → f x ≡ o → IsPermutation (filter_map f (x ∷ ws)) (us ++ filter_map f (x ∷ vs))
      by_case None is = rw is h
      by_case (Some y) is =
          rw is (IsPermutation-trans _ _ _ (IsPermutation-cons y (filter_map f ws) (us ++ filter_map f vs) h) (IsPermutation-sym _ _ (IsPermutation-middle us y (filter_map f vs))))

  -- what is taken of a list is what is taken of its two parts
  pub taken_of_both : (p : X → Bool) (xs : List X) → IsPermutation (filter_map f xs) (filter_map f (filter p xs) ++ filter_map f (filter (λ x. not (p x)) xs))
  taken_of_both p [] = IsPermutation-refl []
  taken_of_both p (x ∷ xs) = by_test (p x) (taken_of_both p xs)
    where
      passed : List X
      passed = filter p xs

      others : List X
      others = filter (λ y. not (p y)) xs

      by_test : (b : Bool) → IsPermutation (filter_map f xs) (filter_map f passed ++ filter_map f others)
          → IsPermutation (filter_map f (x ∷ xs)) (filter_map f (cond b (x ∷ passed) passed) ++ filter_map f (cond (not b) (x ∷ others) others))
      by_test true rest = in_front x xs passed (filter_map f others) rest
      by_test false rest = in_back x xs others (filter_map f passed) rest
