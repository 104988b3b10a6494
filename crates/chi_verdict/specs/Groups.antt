-- the places of a trace, sorted by granules and, in each, by ends
use Rattle.std.specs.Prelude.{◌≡◌, ℕ, ◌+◌, ◌<◌, ◌≤◌, Bool, List, length, map, All, slice_index_or}
use Rattle.std.specs.List.Sorted.{IsNonDecreasingBy}
use Rattle.chi_history.specs.History.{one_if}
use Rattle.chi_trace.specs.declared.operation.Operation.{Operation}
use Rattle.chi_trace.specs.Explains.{at, times_in}
use Rattle.chi_trace.specs.Granules.{granule_of}
use Rattle.chi_verdict.specs.declared.grouping.Placed.{Placed}

-- the places
abbrev pub places_of : List Placed → List ℕ
places_of run = map (λ p. p.place) run

-- each is a place of the trace
abbrev pub AreInside : List Operation → List Placed → Type 0
AreInside ops run = All (λ p. p.place < length ops) run

-- each says the granule and the end of the operation at its place
abbrev pub ArePlaced : List Operation → List Placed → Type 0
ArePlaced ops run = All (λ p. (granule_of (at ops p.place) ≡ p.granule) × ((at ops p.place).end ≡ p.end)) run

-- neighbours of one granule stand by their ends
abbrev pub AreByEnd : List Placed → Type 0
AreByEnd run = (k : ℕ) (d : Placed) → k + 1 < length run → (slice_index_or run k d).granule ≡ (slice_index_or run (k + 1) d).granule
    → (slice_index_or run k d).end ≤ (slice_index_or run (k + 1) d).end

-- each operation that a test leaves is there once, and they stand by their granules and, in each, by their ends
pub record IsGrouped (ops : List Operation) (left : ℕ → Bool) (run : List Placed) : Type 0 where
  pub placed : ArePlaced ops run
  pub each : (i : ℕ) → times_in (places_of run) i ≡ one_if (left i)
  pub granules : IsNonDecreasingBy (λ (p : Placed). p.granule) run
  pub ends : AreByEnd run
