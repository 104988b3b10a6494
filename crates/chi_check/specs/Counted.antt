-- how many states were looked at, and as how many they count
use Rattle.std.specs.Prelude.{◌≡◌, ℕ, ◌+◌, ◌-◌, ◌^◌, ◌≤◌, ◌⊎◌, Option, None, Some, MatchOption, min}
use Rattle.chi_search.specs.Looks.{Search, for_verdict, after_verdict}

-- this number, or the greatest
abbrev pub IsCounted : ℕ → ℕ → Type 0
IsCounted states n = states ≡ min n (2 ^ 64 - 1)

-- What is known of how many states were counted. While a verdict is searched for no limit is set, and each state counts as one. After it
-- so do all, or it was cut short once at least so many more had been looked at than by then.
abbrev pub IsKnown : Search → Option ℕ → ℕ → ℕ → Option ℕ → ℕ → Type 0
IsKnown for_verdict may_follow begun states cut_short n = (may_follow ≡ None) × IsCounted states n
IsKnown (after_verdict verdict) may_follow begun states cut_short n =
    IsCounted begun verdict × (begun ≤ states) × (states ≤ 2 ^ 64 - 1) × MatchOption cut_short (IsCounted states n) (λ most. begun + most ≤ states)

-- the next state counts as one, or it is cut short now
abbrev pub IsCutAt : ℕ → ℕ → Option ℕ → Option ℕ → ℕ → Type 0
IsCutAt begun states old new count = ((new ≡ old) × (count ≡ 1)) ⊎ ((most : ℕ) × (new ≡ Some most) × (begun ≤ states → begun + most ≤ states))
