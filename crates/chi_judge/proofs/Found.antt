-- the places at which something is, while they are looked for
use Rattle.std.proofs.Common.{ℕ, ◌+◌, ◌<◌, ◌⊎◌, List, [], ◌∷◌, ◌++◌, inl, inr, subst, arith}
use Rattle.std.specs.List.{Contains}
use Rattle.std.proofs.lemmas.Bool.{cases_lt}
use Rattle.std.proofs.lemmas.List.Elements.{Contains-append_left, Contains-push}
use Rattle.chi_search.specs.Looks.{LookedAtLeast, LookedSome, Search}
use Rattle.chi_search.proofs.Looking.{at_least_after, at_least_before}

-- each before a place that is one is among these, or as many states as the budget were looked at
abbrev pub AreFirst : {P : Type 0} → (Search → P → ℕ → Type 0) → P → P → ℕ → (ℕ → Type 0) → ℕ → List ℕ → Type 0
AreFirst looked old new budget Is n places = (i : ℕ) → i < n → Is i → Contains places i ⊎ LookedAtLeast looked old new budget

module _ {P : Type 0} (looked : Search → P → ℕ → Type 0) (old middle new : P) (budget : ℕ) (Is : ℕ → Type 0) (n : ℕ) (places : List ℕ) where
  -- the place itself is one
  pub one_more : AreFirst looked old middle budget Is n places → LookedSome looked middle new → AreFirst looked old new budget Is (n + 1) (places ++ n ∷ [])
  one_more first then i below is = elim (cases_lt i n) [
    | inl before ↦ elim (first i before is) [
      | inl there ↦ inl (Contains-append_left places (n ∷ []) i there)
      | inr spent ↦ inr (at_least_before looked old middle new budget spent then)
    ]
    | inr past ↦ inl (subst (Contains (places ++ n ∷ [])) (omega (arith, below, past)) (Contains-push places n))
  ]

  -- it is none, or that was not found
  pub none_more : AreFirst looked old middle budget Is n places → LookedSome looked old middle → LookedSome looked middle new
      → (Is n → LookedAtLeast looked middle new budget) → AreFirst looked old new budget Is (n + 1) places
  none_more first before then other i below is = elim (cases_lt i n) [
    | inl earlier ↦ elim (first i earlier is) [
      | inl there ↦ inl there
      | inr spent ↦ inr (at_least_before looked old middle new budget spent then)
    ]
    | inr past ↦ inr (at_least_after looked old middle new budget before (other (subst Is (omega (arith, below, past)) is)))
  ]
