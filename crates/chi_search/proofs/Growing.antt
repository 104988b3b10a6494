-- the number of states that were looked at, which grows from search to search
use Rattle.std.proofs.Common.{ℕ, ◌+◌, ◌≤◌, Option, None, Some, arith}
use Rattle.chi_search.specs.Looks.{FoundThenLooked, Grew, GrewBy, IsCutShort, LookedAtLeast, LookedMore, LookedSome, Search, after_verdict, for_verdict}

module _ {P : Type 0} (states : P → ℕ → Type 0) where
  -- by so many, and then by so many
  grew_after : (old middle new : P) (a b c : ℕ) → c ≤ a + b → GrewBy states old middle a → GrewBy states middle new b → GrewBy states old new c
  grew_after old middle new a b c fewer first then n knows =
      let begun = first n knows in
      let ended = then begun.0 begun.2 in
      (ended.0, omega (arith, fewer, begun.1, ended.1), ended.2)

  -- not at all
  pub looked_none : (p : P) → Grew states p p
  looked_none p n knows = (n, omega arith, knows)

  module _ (old middle new : P) where
    -- some more, and then others
    pub some_after : Grew states old middle → Grew states middle new → Grew states old new
    some_after first then = grew_after old middle new 0 0 0 (omega arith) first then

    -- some, and then at least so many
    pub at_least_after : (budget : ℕ) → Grew states old middle → GrewBy states middle new budget → GrewBy states old new budget
    at_least_after budget first then = grew_after old middle new 0 budget budget (omega arith) first then

    -- at least so many, and then others
    pub at_least_before : (budget : ℕ) → GrewBy states old middle budget → Grew states middle new → GrewBy states old new budget
    at_least_before budget first then = grew_after old middle new budget 0 budget (omega arith) first then

    -- at least so many, and then at least so many others
    pub at_least_both : (first second : ℕ) → GrewBy states old middle first → GrewBy states middle new second → GrewBy states old new (first + second)
    at_least_both first second before then = grew_after old middle new first second (first + second) (omega arith) before then

  -- by fewer
  pub grew_less : (old new : P) (budget less : ℕ) → less ≤ budget → GrewBy states old new budget → GrewBy states old new less
  grew_less old new budget less under grew n knows = let ended = grew n knows in (ended.0, omega (arith, under, ended.1), ended.2)

-- as many as were counted in a search for a verdict
module _ {P : Type 0} (looked : Search → P → ℕ → Type 0) (old new : P) where
  pub grew_by : (k budget : ℕ) → budget ≤ k → LookedMore looked old new k → GrewBy (looked for_verdict) old new budget
  grew_by k budget under more n knows = (n + k, omega (arith, under), more for_verdict n knows)

  pub grew_some : LookedSome looked old new → Grew (looked for_verdict) old new
  grew_some some = grew_by some.0 0 (omega arith) some.1

  pub grew_at_least : (budget : ℕ) → LookedAtLeast looked old new budget → GrewBy (looked for_verdict) old new budget
  grew_at_least budget whole = grew_by whole.0 budget whole.1 whole.2

module _ {P : Type 0} (states : P → ℕ → Type 0) (looked : Search → P → ℕ → Type 0) where
  -- as many as were looked at for a verdict and after it
  pub grew_found : (old new : P) (count more : ℕ) (cut_short : Option ℕ) → FoundThenLooked states looked old new count more → IsCutShort states looked new cut_short → GrewBy states old new count
  grew_found old new count more None found told n knows = (n + count + more, omega arith, told (n + count) (n + count + more) (found n knows))
  grew_found old new count more (Some most) found told n knows =
      let whole = told (n + count) (n + count + more) (found n knows) in
      (whole.0, omega (arith, whole.1), whole.2)

  -- as many as were looked at after a verdict, where the search for the next one begins
  module _ (old begun ended new : P) (ends : (n : ℕ) → looked for_verdict old n → looked (after_verdict n) begun n) (begins : (n : ℕ) → states ended n → looked for_verdict new n) where
    pub grew_uncut : (budget : ℕ) → IsCutShort states looked ended None → LookedAtLeast looked begun ended budget → GrewBy (looked for_verdict) old new budget
    grew_uncut budget told whole n knows = (
      n + whole.0,
      omega (arith, whole.1),
      begins (n + whole.0) (told n (n + whole.0) (whole.2 (after_verdict n) n (ends n knows))),
    )

    pub grew_cut : (most : ℕ) → IsCutShort states looked ended (Some most) → LookedSome looked begun ended → GrewBy (looked for_verdict) old new most
    grew_cut most told some n knows =
        let whole = told n (n + some.0) (some.1 (after_verdict n) n (ends n knows)) in
        (whole.0, whole.1, begins whole.0 whole.2)

    pub grew_over : (cut_short : Option ℕ) → IsCutShort states looked ended cut_short → LookedSome looked begun ended → Grew (looked for_verdict) old new
    grew_over None told some = grew_uncut 0 told (some.0, omega arith, some.1)
    grew_over (Some most) told some = grew_less (looked for_verdict) old new most 0 (omega arith) (grew_cut most told some)
