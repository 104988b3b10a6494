-- the last operation of each granule and of each line, while a trace is gone through
use Rattle.std.specs.Prelude.{◌≡◌, ℕ, nat_eq, List}
use Rattle.std.specs.HashMap.{get, HashMap}
use Rattle.std.specs.declared.hash.BuildHasherDefault.{BuildHasherDefault}
use Rattle.std.specs.declared.hash.FoldHasher.{FoldHasher}
use Rattle.chi_trace.specs.declared.operation.Operation.{Operation}
use Rattle.chi_trace.specs.Granules.{granule_of}
use Rattle.chi_cover.specs.declared.sequence.LastPlaces.{LastPlaces}
use Rattle.chi_cover.specs.Sequences.{last_with, line_of}

-- the places of operations, each at its operation's key
abbrev pub Places : Type 0
Places = HashMap ℕ ℕ (BuildHasherDefault FoldHasher)

-- at each key the place of the last of the first n operations that has it, if one has
abbrev pub AreLast : (Operation → ℕ) → List Operation → ℕ → Places → Type 0
AreLast key trace n places = (k : ℕ) → get nat_eq places k ≡ last_with key k trace n

-- the same for the granules and for the lines
pub record AreLastPlaces (trace : List Operation) (n : ℕ) (last : LastPlaces) : Type 0 where
  pub granules : AreLast granule_of trace n last.granules
  pub lines : AreLast line_of trace n last.lines
