-- how far a granule's operations are seen to be explained
use Rattle.std.specs.Prelude.{◌≡◌, ℕ, ◌≤◌, ◌⊎◌, true, List, All, Option, Some}
use Rattle.std.specs.List.{filter}
use Rattle.chi_trace.specs.declared.operation.Operation.{Operation}
use Rattle.chi_trace.specs.AtPlaces.{is_in}
use Rattle.chi_trace.specs.Explains.{is_answered}
use Rattle.chi_search.specs.Looks.{LookedAtLeast, Search}
use Rattle.chi_judge.specs.Reaches.{IsExplained}

-- it ended by a time, where there is one
abbrev pub EndsBy : Option ℕ → Operation → Type 0
EndsBy found op = (time : ℕ) × (found ≡ Some time) × (op.end ≤ time)

-- each of those whose reply was seen did
abbrev pub AreAnsweredBy : List Operation → Option ℕ → Type 0
AreAnsweredBy own found = All (λ op. is_answered op ≡ true → EndsBy found op) own

-- each of those whose reply was seen did, or ended no earlier than the next time
abbrev pub AreAnsweredBeside : List Operation → Option ℕ → ℕ → Type 0
AreAnsweredBeside own found next = All (λ op. is_answered op ≡ true → EndsBy found op ⊎ (next ≤ op.end)) own

-- It is explained as far as was found: each reply that was seen had come by the time; or between it and a next time none came, and
-- up to that one no order explains the granule, or this was spent.
abbrev pub IsAsFarUnless : Type 0 → List Operation → ℕ → ℕ → Option ℕ → Type 0
IsAsFarUnless Spent trace g w found =
    AreAnsweredBy (filter (is_in g) trace) found
    ⊎ ((next : ℕ) × AreAnsweredBeside (filter (is_in g) trace) found next × ((IsExplained next trace g w → ⊥) ⊎ Spent))

-- or as many states were counted as the budget has
abbrev pub IsAsFar : {P : Type 0} → (Search → P → ℕ → Type 0) → P → P → ℕ → List Operation → ℕ → ℕ → Option ℕ → Type 0
IsAsFar looked old new budget trace g w found = IsAsFarUnless (LookedAtLeast looked old new budget) trace g w found
