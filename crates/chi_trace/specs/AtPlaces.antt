-- a granule's operations by themselves, in any order
use Rattle.std.specs.Prelude.{◌≡◌, ℕ, ◌==◌, Bool, List, map, slice_index, Option, ◌↔◌}
use Rattle.std.specs.List.{filter}
use Rattle.std.specs.List.Sorted.{IsPermutation}
use Rattle.chi_history.specs.History.{one_if}
use Rattle.chi_trace.specs.declared.operation.Operation.{Operation}
use Rattle.chi_trace.specs.Explains.{at, is_place, times_in}
use Rattle.chi_trace.specs.Granules.{ExplainsGranule, Finishes, granule_of}

-- the operations at these places
abbrev pub at_places : List Operation → List ℕ → List Operation
at_places trace places = map (at trace) places

-- The operations that a test leaves may stand by themselves, in any order: `places` has each place that it leaves once.
-- What finishes them, by its places, is what finishes them in the trace.
abbrev pub PlacesExplain : Type 0
PlacesExplain = (trace : List Operation) (left : ℕ → Bool) (places : List ℕ) (w : ℕ) (final_word : Option ℕ) → ((i : ℕ) → times_in places i ≡ one_if (left i))
    → ((order : List ℕ) → Finishes (at_places trace places) (is_place (at_places trace places)) w final_word order
    → Finishes trace left w final_word (map (slice_index places) order))
    × ((order : List ℕ) → Finishes trace left w final_word order
    → (own : List ℕ) × Finishes (at_places trace places) (is_place (at_places trace places)) w final_word own × (order ≡ map (slice_index places) own))

-- the operation is one of the granule
abbrev pub is_in : ℕ → Operation → Bool
is_in g op = granule_of op == g

-- A granule's operations can be explained exactly where they can by themselves, in any order.
abbrev pub GranulesStandAlone : Type 0
GranulesStandAlone = (trace ops : List Operation) (g w : ℕ) (final_word : Option ℕ) → IsPermutation (filter (is_in g) trace) ops
    → ((order : List ℕ) × ExplainsGranule trace g w final_word order) ↔ ((order : List ℕ) × Finishes ops (is_place ops) w final_word order)
