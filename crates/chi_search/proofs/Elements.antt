-- what holds of some element of a list
use Rattle.std.proofs.Common.{◌≡◌, ◌≢◌, ℕ, ◌+◌, ◌<◌, ◌≤◌, ◌==◌, true, false, ◌⊎◌, ◌↔◌, List, [], ◌∷◌, ◌++◌, eq-eqb, eqb-true, get_or, length, take, Some, refl, sym, ap, subst, ◌∙◌, arith, inl, inr}
use Rattle.std.specs.Prelude.{slice_get}
use Rattle.std.specs.List.{AllPairs, Contains, list_any}
use Rattle.std.proofs.lemmas.List.{take_all, take_more}
use Rattle.std.proofs.lemmas.List.Elements.{Contains-append_left, Contains-push, Contains-push_cases}
use Rattle.std.proofs.lemmas.List.Folds.{Any-from_list_any, list_any_at}
use Rattle.std.proofs.lemmas.List.Quantifiers.{all_pairs_push}
use Rattle.std.proofs.lemmas.Option.{get_or_from_slice_get, slice_get_within}

-- some element of the list has the property
abbrev pub SomeOf : {X : Type 0} (P : X → Type 0) → List X → Type 0
SomeOf {X} P xs = (x : X) × Contains xs x × P x

-- no element of the empty list
pub none_of : {X : Type 0} (P : X → Type 0) → SomeOf P [] → ⊥
none_of P (x, (k, below, is), holds) = omega (arith, below)

-- one element more
pub some_more : {X : Type 0} (P : X → Type 0) (xs : List X) (y : X) → SomeOf P (xs ++ y ∷ []) ↔ (SomeOf P xs ⊎ P y)
some_more P xs y = (forth, back)
  where
    forth : SomeOf P (xs ++ y ∷ []) → SomeOf P xs ⊎ P y
    forth (x, has, holds) = elim (Contains-push_cases xs y x has) [
      | inl before ↦ inl (x, before, holds)
      | inr same ↦ inr (subst P (sym same) holds)
    ]

    back : (SomeOf P xs ⊎ P y) → SomeOf P (xs ++ y ∷ [])
    back (inl (x, has, holds)) = (x, Contains-append_left xs (y ∷ []) x has, holds)
    back (inr holds) = (y, Contains-push xs y, holds)

-- the elements up to a place that was read, and the one there
pub read_more : {X : Type 0} (xs : List X) (k : ℕ) (x : X) → slice_get xs k ≡ Some x → take (k + 1) xs ≡ take k xs ++ x ∷ []
read_more xs k x is = take_more xs k x (slice_get_within xs k x is) ∙ ap (λ y. take k xs ++ y ∷ []) (get_or_from_slice_get xs k x x is)

-- what is so of the elements before a place, and of the one there
pub some_step : {X : Type 0} (P : X → Type 0) (A B : Type 0) (xs : List X) (k : ℕ) (x : X) → slice_get xs k ≡ Some x
    → A ↔ SomeOf P (take k xs) → B ↔ (A ⊎ P x) → B ↔ SomeOf P (take (k + 1) xs)
some_step P A B xs k x is before now = subst (λ ys. B ↔ SomeOf P ys) (sym (read_more xs k x is)) (forth, back)
  where
    forth : B → SomeOf P (take k xs ++ x ∷ [])
    forth b = elim (now.0 b) [
      | inl a ↦ (some_more P (take k xs) x).1 (inl (before.0 a))
      | inr here ↦ (some_more P (take k xs) x).1 (inr here)
    ]

    back : SomeOf P (take k xs ++ x ∷ []) → B
    back some = elim ((some_more P (take k xs) x).0 some) [
      | inl earlier ↦ now.1 (inl (before.1 earlier))
      | inr here ↦ now.1 (inr here)
    ]

-- the same where others may stand beside them
pub some_step_beside : {X : Type 0} (P : X → Type 0) (A B Other : Type 0) (xs : List X) (k : ℕ) (x : X) → slice_get xs k ≡ Some x
    → A ↔ (SomeOf P (take k xs) ⊎ Other) → B ↔ (A ⊎ P x) → B ↔ (SomeOf P (take (k + 1) xs) ⊎ Other)
some_step_beside P A B Other xs k x is before now = subst (λ ys. B ↔ (SomeOf P ys ⊎ Other)) (sym (read_more xs k x is)) (forth, back)
  where
    forth : B → SomeOf P (take k xs ++ x ∷ []) ⊎ Other
    forth b = elim (now.0 b) [
      | inl a ↦ elim (before.0 a) [
        | inl earlier ↦ inl ((some_more P (take k xs) x).1 (inl earlier))
        | inr other ↦ inr other
      ]
      | inr here ↦ inl ((some_more P (take k xs) x).1 (inr here))
    ]

    back : (SomeOf P (take k xs ++ x ∷ []) ⊎ Other) → B
    back (inl some) = elim ((some_more P (take k xs) x).0 some) [
      | inl earlier ↦ now.1 (inl (before.1 (inl earlier)))
      | inr here ↦ now.1 (inr here)
    ]
    back (inr other) = now.1 (inl (before.1 (inr other)))

-- one element more of a set that is given by a test
pub some_added : {X : Type 0} (P new old : X → Type 0) (s : X) → ((x : X) → new x ↔ (old x ⊎ (x ≡ s)))
    → ((x : X) × new x × P x) ↔ (((x : X) × old x × P x) ⊎ P s)
some_added {X} P new old s added = (forth, back)
  where
    forth : ((x : X) × new x × P x) → ((x : X) × old x × P x) ⊎ P s
    forth (x, has, holds) = elim ((added x).0 has) [
      | inl before ↦ inl (x, before, holds)
      | inr same ↦ inr (subst P same holds)
    ]

    back : (((x : X) × old x × P x) ⊎ P s) → (x : X) × new x × P x
    back (inl (x, has, holds)) = (x, (added x).1 (inl has), holds)
    back (inr holds) = (s, (added s).1 (inr refl), holds)

-- a list and one element more, or one that it has
pub pushed : {X : Type 0} (xs : List X) (y x : X) → Contains (xs ++ y ∷ []) x ↔ (Contains xs x ⊎ (y ≡ x))
pushed xs y x = (Contains-push_cases xs y x, back)
  where
    back : (Contains xs x ⊎ (y ≡ x)) → Contains (xs ++ y ∷ []) x
    back (inl before) = Contains-append_left xs (y ∷ []) x before
    back (inr same) = subst (Contains (xs ++ y ∷ [])) same (Contains-push xs y)

pub had : {X : Type 0} (xs : List X) (y x : X) → Contains xs y → Contains xs x ↔ (Contains xs x ⊎ (y ≡ x))
had xs y x has = (inl, back)
  where
    back : (Contains xs x ⊎ (y ≡ x)) → Contains xs x
    back (inl before) = before
    back (inr same) = subst (Contains xs) same has

-- before the first place is none, and before the end all
pub some_start : {X : Type 0} (P : X → Type 0) (A : Type 0) (xs : List X) → (A → ⊥) → A ↔ SomeOf P (take 0 xs)
some_start P A xs none = (λ a. absurd (none a), λ some. absurd (none_of P some))

pub some_end : {X : Type 0} (P : X → Type 0) (A : Type 0) (xs : List X) (n : ℕ) → length xs ≤ n → A ↔ SomeOf P (take n xs) → A ↔ SomeOf P xs
some_end P A xs n whole so = subst (λ ys. A ↔ SomeOf P ys) (take_all n xs whole) so

pub some_end_beside : {X : Type 0} (P : X → Type 0) (A Other : Type 0) (xs : List X) (n : ℕ) → length xs ≤ n → A ↔ (SomeOf P (take n xs) ⊎ Other)
    → A ↔ (SomeOf P xs ⊎ Other)
some_end_beside P A Other xs n whole so = subst (λ ys. A ↔ (SomeOf P ys ⊎ Other)) (take_all n xs whole) so

-- one of two is one of two equal ones
pub in_place : (A B C D : Type 0) → A ↔ (B ⊎ C) → (C → D) → (D → C) → A ↔ (B ⊎ D)
in_place A B C D so to from = (forth, back)
  where
    forth : A → B ⊎ D
    forth a = elim (so.0 a) [
      | inl b ↦ inl b
      | inr c ↦ inr (to c)
    ]

    back : (B ⊎ D) → A
    back (inl b) = so.1 (inl b)
    back (inr d) = so.1 (inr (from d))

-- a number that a test finds in the list
pub any_contains : (xs : List ℕ) (x : ℕ) → list_any (λ y. y == x) xs ≡ true → Contains xs x
any_contains xs x is = let found = Any-from_list_any (λ y. y == x) xs is in subst (Contains xs) (eqb-true found.1 x found.4) (found.0, found.2, found.3)

-- a number more that the test does not find, in a list where none stands twice
pub once_more : (xs : List ℕ) (x : ℕ) → list_any (λ y. y == x) xs ≡ false → AllPairs (λ v w. v ≢ w) xs → AllPairs (λ v w. v ≢ w) (xs ++ x ∷ [])
once_more xs x new once = all_pairs_push (λ v w. v ≢ w) xs x once none
  where
    none : (k d : ℕ) → k < length xs → get_or xs k d ≢ x
    none k d below same = let is : list_any (λ y. y == x) xs ≡ true = list_any_at (λ y. y == x) xs k d below (eq-eqb (get_or xs k d) x same) in cc
