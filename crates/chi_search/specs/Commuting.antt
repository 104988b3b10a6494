-- operations of which one can be moved before another
use Rattle.std.specs.Prelude.{◌≡◌, ℕ, ◌^◌, ◌<◌, ◌≤◌, true, List, length, slice_index, Option}
use Rattle.std.specs.Int.{bit_at}
use Rattle.chi_fields.specs.Access.{Access}
use Rattle.chi_trace.specs.declared.operation.Operation.{Operation}
use Rattle.chi_trace.specs.Explains.{at}
use Rattle.chi_trace.specs.Granules.{Fits, next}
use Rattle.chi_search.specs.Moves.{ByTaking, Ends}
use Rattle.chi_search.specs.Positions.{Position, is_left}

-- from this word on x can come before z: each fits, and both leave what they leave in the other order
pub record ComesBefore (x z : Operation) (w : ℕ) : Type 0 where
  pub fits : Fits x w
  pub below : next x w < 2 ^ 64
  pub fits_after : Fits z (next x w)
  pub same : next z (next x w) ≡ next x (next z w)

-- wherever x can come right after z, it can come right before z
abbrev pub MovesBefore : Operation → Operation → Type 0
MovesBefore x z = (w : ℕ) → w < 2 ^ 64 → Fits z w → Fits x (next z w) → ComesBefore x z w

-- where both enable a lane the data are the same there
abbrev pub AgreeWhereShared : Access → Access → Type 0
AgreeWhereShared x z = (lane : ℕ) → lane < 16 → bit_at x.enables lane ≡ 1 → bit_at z.enables lane ≡ 1 → slice_index x.lanes lane ≡ slice_index z.lanes lane

-- the operation can be moved before another one, if that is left and starts by its end
abbrev pub Passes : List Operation → Position → ℕ → ℕ → Type 0
Passes ops p i j = is_left (length ops) p j ≡ true → (j ≡ i → ⊥) → (at ops j).start ≤ (at ops i).end → MovesBefore (at ops i) (at ops j)

-- and before each such one
abbrev pub MovesBeforeAll : List Operation → Position → ℕ → Type 0
MovesBeforeAll ops p i = (j : ℕ) → Passes ops p i j

-- where some order goes on, one goes on by the operation
abbrev pub GoesFirst : List Operation → Position → ℕ → Type 0
GoesFirst ops p i = (final_word : Option ℕ) → Ends ops final_word p → ByTaking ops final_word p i
