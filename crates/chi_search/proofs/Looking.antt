-- no state more, and states after states
use Rattle.std.proofs.Common.{◌≡◌, ℕ, ◌+◌, ◌-◌, ◌≤◌, refl, subst, arith}
use Rattle.chi_search.specs.Looks.{LookedAtLeast, LookedMore, LookedSome, Search}

-- none more
pub none_more : {P : Type 0} (looked : Search → P → ℕ → Type 0) (p : P) (k : ℕ) → k ≡ 0 → LookedMore looked p p k
none_more looked p k none s n knows = subst (looked s p) (omega (arith, none)) knows

-- some more, and then others
pub more_after : {P : Type 0} (looked : Search → P → ℕ → Type 0) (old middle new : P) (a b c : ℕ) → a + b ≡ c
    → LookedMore looked old middle a → LookedMore looked middle new b → LookedMore looked old new c
more_after looked old middle new a b c sum first then s n knows = subst (looked s new) (omega (arith, sum)) (then s (n + a) (first s n knows))

-- as many as a budget lost, and as many as the next state counts
pub next_look : {P : Type 0} (looked : Search → P → ℕ → Type 0) (old middle new : P) (budget left count : ℕ) → left ≤ budget → count ≤ left
    → LookedMore looked old middle (budget - left) → LookedMore looked middle new count → LookedMore looked old new (budget - (left - count))
next_look looked old middle new budget left count under within =
    more_after looked old middle new (budget - left) count (budget - (left - count)) (omega (arith, under, within))

-- the same for as many as it loses then
pub spent_after : {P : Type 0} (looked : Search → P → ℕ → Type 0) (old middle new : P) (budget left less : ℕ) → left ≤ budget → less ≤ left
    → LookedMore looked old middle (budget - left) → LookedMore looked middle new (left - less) → LookedMore looked old new (budget - less)
spent_after looked old middle new budget left less under fewer =
    more_after looked old middle new (budget - left) (left - less) (budget - less) (omega (arith, under, fewer))

-- searches one after another
module _ {P : Type 0} (looked : Search → P → ℕ → Type 0) where
  -- none
  pub looked_none : (p : P) → LookedSome looked p p
  looked_none p = (0, none_more looked p 0 refl)

  module _ (old middle new : P) where
    -- some, and then others
    pub some_after : LookedSome looked old middle → LookedSome looked middle new → LookedSome looked old new
    some_after first then = (first.0 + then.0, more_after looked old middle new first.0 then.0 (first.0 + then.0) refl first.1 then.1)

    -- some, and then at least so many
    pub at_least_after : (budget : ℕ) → LookedSome looked old middle → LookedAtLeast looked middle new budget → LookedAtLeast looked old new budget
    at_least_after budget first then = (
      first.0 + then.0,
      let whole = then.1 in omega (arith, whole),
      more_after looked old middle new first.0 then.0 (first.0 + then.0) refl first.1 then.2,
    )

    -- at least so many, and then others
    pub at_least_before : (budget : ℕ) → LookedAtLeast looked old middle budget → LookedSome looked middle new → LookedAtLeast looked old new budget
    at_least_before budget first then = (
      first.0 + then.0,
      let whole = first.1 in omega (arith, whole),
      more_after looked old middle new first.0 then.0 (first.0 + then.0) refl first.2 then.1,
    )

    -- at least so many, and then at least so many others
    pub at_least_both : (first second : ℕ) → LookedAtLeast looked old middle first → LookedAtLeast looked middle new second → LookedAtLeast looked old new (first + second)
    at_least_both first second (a, enough, before) (b, more, then) = (a + b, omega (arith, enough, more), more_after looked old middle new a b (a + b) refl before then)
