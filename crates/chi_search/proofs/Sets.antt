-- what stands in a set of two lists, the second after the first
use Rattle.std.proofs.Common.{◌≡◌, ℕ, ◌+◌, ◌<◌, ◌==◌, ◌⊎◌, ◌↔◌, Bool, true, false, cond, List, [], ◌∷◌, ◌++◌, All, filter, length, length-append, refl, sym, ap, subst, ◌∙◌, eqb-true, true≢false, arith, inl, inr, ⊎_elim}
use Rattle.std.specs.Prelude.{map}
use Rattle.std.specs.List.{Contains}
use Rattle.std.proofs.Math.Logic.{⊎_swap}
use Rattle.std.proofs.lemmas.List.{get_or-map, length-map, nil_from_length}
use Rattle.std.proofs.lemmas.List.Elements.{All-cons, All-contains, All-contains_itself, All-head, All-nil, All-tail, Contains-append_cases, Contains-append_left, Contains-append_right, Contains-push, Contains-push_cases}

-- a list of which the count is tested to be 0
pub none_counted : {X : Type 0} (xs : List X) (n : ℕ) (b : Bool) → n ≡ length xs → b ≡ (n == 0) → b ≡ true → xs ≡ []
none_counted xs n b long test is = nil_from_length xs (sym long ∙ eqb-true n 0 (sym test ∙ is))

-- what stands in a list stands in its image
pub Contains-map : {A B : Type 0} (f : A → B) (xs : List A) (x : A) → Contains xs x → Contains (map f xs) (f x)
Contains-map f xs x has = (has.0, subst (λ n. has.0 < n) (sym (length-map xs f)) has.1, get_or-map f xs has.0 x (f x) has.1 ∙ ap f has.2)

-- what holds of each that passes
module _ {X : Type 0} (p : X → Bool) (P : X → Type 0) where
  abbrev IfPasses : X → Type 0
  IfPasses x = p x ≡ true → P x

  pub passed : (xs : List X) → All P (filter p xs) → All IfPasses xs
  passed [] all = All-nil IfPasses
  passed (x ∷ xs) all = by_test (p x) refl all (passed xs)
    where
      by_test : (b : Bool) → p x ≡ b → All P (cond b (x ∷ filter p xs) (filter p xs)) → (All P (filter p xs) → All IfPasses xs) → All IfPasses (x ∷ xs)
      by_test true is every rest = All-cons IfPasses x xs (λ passes. All-head P x (filter p xs) every) (rest (All-tail P x (filter p xs) every))
      by_test false is every rest = All-cons IfPasses x xs (λ passes. absurd (true≢false (sym passes ∙ is))) (rest every)

-- an element that passes is kept
pub Contains-filter : {X : Type 0} (p : X → Bool) (xs : List X) (x : X) → Contains xs x → p x ≡ true → Contains (filter p xs) x
Contains-filter p xs x there passes =
    All-contains (λ y. p y ≡ true → Contains (filter p xs) y) xs x (passed p (Contains (filter p xs)) xs (All-contains_itself (filter p xs))) there passes

-- what stands in two lists stands in the one or the other
in_either : {X : Type 0} (xs ys : List X) (x : X) → Contains (xs ++ ys) x ↔ (Contains xs x ⊎ Contains ys x)
in_either xs ys x = (
  Contains-append_cases xs ys x,
  λ has. elim has [ inl first ↦ Contains-append_left xs ys x first | inr second ↦ Contains-append_right xs ys x second ],
)

-- an element more of a list
pushed : {X : Type 0} (old new : List X) (y : X) → new ≡ old ++ y ∷ [] → (x : X) → Contains new x ↔ (Contains old x ⊎ (x ≡ y))
pushed old new y is x = (
  λ has. elim (Contains-push_cases old y x (subst (λ zs. Contains zs x) is has)) [ inl before ↦ inl before | inr same ↦ inr (sym same) ],
  λ has. subst (λ zs. Contains zs x) (sym is) (elim has [
    | inl before ↦ Contains-append_left old (y ∷ []) x before
    | inr same ↦ subst (Contains (old ++ y ∷ [])) (sym same) (Contains-push old y)
  ]),
)

pub swapped : {A B C : Type 0} → A ↔ (B ⊎ C) → A ↔ (C ⊎ B)
swapped e = (λ a. ⊎_swap (e.0 a), λ either. e.1 (⊎_swap either))

-- where one of two parts has one more, so has the whole
pub one_more : {Old New Other More Before After : Type 0} → New ↔ (Old ⊎ More) → Before ↔ (Old ⊎ Other) → After ↔ (New ⊎ Other) → After ↔ (Before ⊎ More)
one_more more before after = (
  λ has. ⊎_elim (λ new. ⊎_elim (λ old. inl (before.1 (inl old))) inr (more.0 new)) (λ other. inl (before.1 (inr other))) (after.0 has),
  λ has. after.1 (⊎_elim (λ was. ⊎_elim (λ old. inl (more.1 (inl old))) inr (before.0 was)) (λ one. inl (more.1 (inr one))) has),
)

-- one element more of the first list
pub more_first : {X : Type 0} (old new ys : List X) (y : X) → new ≡ old ++ y ∷ [] → (x : X) → Contains (new ++ ys) x ↔ (Contains (old ++ ys) x ⊎ (x ≡ y))
more_first old new ys y is x = one_more (pushed old new y is x) (in_either old ys x) (in_either new ys x)

-- one element more of the second list
pub more_second : {X : Type 0} (xs old new : List X) (y : X) → new ≡ old ++ y ∷ [] → (x : X) → Contains (xs ++ new) x ↔ (Contains (xs ++ old) x ⊎ (x ≡ y))
more_second xs old new y is x = one_more (pushed old new y is x) (swapped (in_either xs old x)) (swapped (in_either xs new x))

-- with it the whole is longer by one
pub longer_first : {X : Type 0} (old new ys : List X) (y : X) → new ≡ old ++ y ∷ [] → length (new ++ ys) ≡ length (old ++ ys) + 1
longer_first old new ys y is =
    rw is (omega (arith, length-append (old ++ y ∷ []) ys, length-append old (y ∷ []), length-append old ys))

pub longer_second : {X : Type 0} (xs old new : List X) (y : X) → new ≡ old ++ y ∷ [] → length (xs ++ new) ≡ length (xs ++ old) + 1
longer_second xs old new y is =
    rw is (omega (arith, length-append xs (old ++ y ∷ []), length-append old (y ∷ []), length-append xs old))
