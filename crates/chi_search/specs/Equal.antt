-- operations that do the same, and were answered the same
use Rattle.std.specs.Prelude.{◌≡◌, ℕ, ◌<◌, List}
use Rattle.chi_trace.specs.declared.operation.Operation.{Operation}
use Rattle.chi_trace.specs.Explains.{at}
use Rattle.chi_search.specs.Moves.{CanCome}
use Rattle.chi_search.specs.Positions.{Position}

-- All but their times and their requesters are equal.
abbrev pub AreEqual : Operation → Operation → Type 0
AreEqual x y = (x.access ≡ y.access) × (x.reply ≡ y.reply)

-- an equal operation that can come next as well stands before the place
abbrev pub HasEqualBefore : List Operation → Position → ℕ → Type 0
HasEqualBefore ops p place = (i : ℕ) × (i < place) × AreEqual (at ops place) (at ops i) × CanCome ops p i
