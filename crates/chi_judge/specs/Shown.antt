-- which operations are shown where a granule's stop being explained
use Rattle.std.specs.Prelude.{◌≡◌, ℕ, ◌-◌, ◌<◌, ◌≤◌, nat_le, Bool, true, ◌&&◌, List, [], ◌∷◌, ◌++◌, All, drop, length, IsPermutation}
use Rattle.std.specs.List.{AllPairs, filter}
use Rattle.chi_trace.specs.AtPlaces.{is_in}
use Rattle.chi_trace.specs.Explains.{is_answered}
use Rattle.chi_trace.specs.declared.operation.Operation.{Operation}

-- the last so many of a list
abbrev pub last_of : {X : Type 0} → ℕ → List X → List X
last_of most xs = drop (length xs - most) xs

-- it had ended by a time
abbrev pub had_ended : ℕ → Operation → Bool
had_ended time op = nat_le op.end time

-- it is of the granule, and had ended by a time
abbrev pub is_ended_by : ℕ → ℕ → Operation → Bool
is_ended_by g time op = is_in g op && had_ended time op

-- it ended no later than the other
abbrev pub EndsNoLater : Operation → Operation → Type 0
EndsNoLater op other = op.end ≤ other.end

-- Of the granule's operations that had ended by the time, but the one that is blamed, these are the last so many, in the order of
-- their ends: each of the others ended no later, and there are others only where these are so many.
pub record AreBefore (trace : List Operation) (g time : ℕ) (blamed : Operation) (most : ℕ) (before : List Operation) : Type 0 where
  pub others : List Operation
  pub each : IsPermutation (filter (is_ended_by g time) trace) (blamed ∷ (others ++ before))
  pub in_order : AllPairs EndsNoLater (others ++ before)
  pub few : length before ≤ most
  pub whole : length before < most → others ≡ []

-- none of these that was answered at the time has an earlier request
abbrev pub IsOfFirstRequest : List Operation → ℕ → ℕ → Type 0
IsOfFirstRequest ops time number = All (λ op. is_answered op ≡ true → op.end ≡ time → number ≤ op.number) ops
