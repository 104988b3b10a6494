-- what an operation may leave in the bits of a mask
use Rattle.std.specs.Prelude.{ℕ, ◌⊎◌, Option, None, Some}
use Rattle.chi_trace.specs.declared.operation.Operation.{Operation}
use Rattle.chi_search.specs.declared.outcomes.Outcomes.{Outcomes}
use Rattle.chi_search.specs.declared.outcomes.Outcomes.TheVariants.{Problem, Unknown}
use Rattle.chi_search.specs.Effects.{Agree}
use Rattle.chi_search.specs.Within.{StepsTo}

-- the word is there, and has the same bits of the mask
abbrev pub HasBits : ℕ → ℕ → Option ℕ → Type 0
HasBits mask u None = ⊥
HasBits mask u (Some w) = Agree mask u w

-- whatever the operation may leave, one of the words has its bits of the mask
abbrev pub AreOutcomes : ℕ → Operation → ℕ → Option ℕ → Option ℕ → Type 0
AreOutcomes mask op v one other = (u : ℕ) → StepsTo mask op v u → HasBits mask u one ⊎ HasBits mask u other

abbrev pub IfKnown : Outcomes → (Option ℕ → Option ℕ → Type 0) → Type 0
IfKnown (Problem one other) P = P one other
IfKnown Unknown P = Unit {0}
