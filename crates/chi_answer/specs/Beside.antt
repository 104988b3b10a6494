-- the other granules of a line of 64 bytes that no order explains
use Rattle.std.specs.Prelude.{◌≡◌, ◌⊎◌, ℕ, ◌/◌, ◌<◌, List, [], ◌∷◌, ◌++◌, All}
use Rattle.std.specs.List.{AllPairs, Contains}
use Rattle.chi_reading.specs.TraceText.{RecordedValue}
use Rattle.chi_trace.specs.Traces.{IsExplainedIn}

-- it is another granule of the same line
abbrev pub IsBeside : ℕ → ℕ → Type 0
IsBeside granule other = (other / 8 ≡ granule / 8) × (other ≡ granule → ⊥)

-- some of these, in the order of their addresses, of none of which an order explains the operations
pub record AreBeside (r : RecordedValue) (granule : ℕ) (beside : List ℕ) : Type 0 where
  pub rising : AllPairs (λ g h. g < h) beside
  pub others : All (IsBeside granule) beside
  pub unexplained : All (λ g. (order : List ℕ) → IsExplainedIn r.trace r.final_words g order → ⊥) beside

-- the granule is one of them, or some order explains its operations
abbrev pub IsToldOrExplained : RecordedValue → List ℕ → ℕ → Type 0
IsToldOrExplained r beside g = Contains beside g ⊎ ((order : List ℕ) × IsExplainedIn r.trace r.final_words g order)

-- so it is of each other granule of the line, or this was spent
abbrev pub TellsAll : Type 0 → RecordedValue → ℕ → List ℕ → Type 0
TellsAll Spent r granule beside = (g : ℕ) → IsBeside granule g → IsToldOrExplained r beside g ⊎ Spent

-- another granule of which no order explains the operations was added, or nothing was
abbrev pub IsGrown : RecordedValue → ℕ → ℕ → List ℕ → List ℕ → Type 0
IsGrown r granule g old new =
    (new ≡ old) ⊎ ((new ≡ old ++ g ∷ []) × (g ≡ granule → ⊥) × ((order : List ℕ) → IsExplainedIn r.trace r.final_words g order → ⊥))
