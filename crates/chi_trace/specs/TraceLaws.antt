-- laws of traces and of what explains them
use Rattle.std.specs.Prelude.{◌≡◌, ℕ, ◌<◌, true, List, [], ◌∷◌, All, Option, IfSome, IsTrue, ◌↔◌}
use Rattle.std.specs.List.{filter}
use Rattle.chi_fields.specs.Extent.{lies_in}
use Rattle.chi_lanes.specs.Memory.{Memory, IsMemory}
use Rattle.chi_history.specs.declared.entry.Entry.{Entry}
use Rattle.chi_history.specs.declared.opening.Opening.{Opening}
use Rattle.chi_history.specs.History.{IsLegal, end, opening_memory}
use Rattle.chi_trace.specs.declared.operation.Operation.{Operation}
use Rattle.chi_trace.specs.Cuts.{cut}
use Rattle.chi_trace.specs.Explains.{Explains, IsInTime, IsTrace, at, is_place, memory_after, unobserved, word_of}
use Rattle.chi_trace.specs.Granules.{ExplainsGranule, is_of, last_word}

-- A trace that is explained is so up to each time.
abbrev pub CutsAreExplained : Type 0
CutsAreExplained = (opening : Memory) (final_words : ℕ → Option ℕ) (trace : List Operation) (order : List ℕ) (time : ℕ) → IsTrace trace
    → Explains opening final_words trace order → (before : List ℕ) × Explains opening unobserved (cut time trace) before

-- the entries are the operations in this order, each with its reply where that was seen
unfoldable pub AreEntries : List Operation → List ℕ → List Entry → Type 0
AreEntries trace [] [] = Unit {0}
AreEntries trace (i ∷ order) (e ∷ h) =
    (e.src ≡ (at trace i).src) × (e.access ≡ (at trace i).access) × IfSome (at trace i).reply (λ reply. reply ≡ e.reply) × AreEntries trace order h
AreEntries trace order h = ⊥

-- the home of this opening may have served each operation
abbrev pub CouldServe : Opening → List Operation → Type 0
CouldServe o trace = (i : ℕ) → IsTrue (is_place trace i) → ((at trace i).src < o.requesters) × IsTrue (lies_in (at trace i).access.addr (at trace i).access.len o.region)

-- Behind what explains a trace stands a legal history of the home: its operations in this order, with the replies that
-- were seen, and the memory's where none was. It leaves the same memory.
abbrev pub ExplanationsAreLegal : Type 0
ExplanationsAreLegal = (o : Opening) (final_words : ℕ → Option ℕ) (trace : List Operation) (order : List ℕ) → IsTrace trace → CouldServe o trace
    → Explains (opening_memory o) final_words trace order
    → (h : List Entry) × IsLegal o h × AreEntries trace order h × (end o h ≡ memory_after trace (opening_memory o) order)

-- A trace can be explained exactly where each granule's operations can.
abbrev pub GranulesExplain : Type 0
GranulesExplain = (opening : Memory) (final_words : ℕ → Option ℕ) (trace : List Operation) → IsMemory opening → IsTrace trace
    → ((g : ℕ) → (order : List ℕ) × ExplainsGranule trace g (word_of opening g) (final_words g) order)
    ↔ ((order : List ℕ) × Explains opening final_words trace order)

-- Orders of the granules' operations make one of the whole trace, in which each keeps its order, and which leaves each
-- granule's word.
abbrev pub OrdersOfGranulesExplain : Type 0
OrdersOfGranulesExplain = (opening : Memory) (final_words : ℕ → Option ℕ) (trace : List Operation) (orders : ℕ → List ℕ) → IsMemory opening → IsTrace trace
    → ((g : ℕ) → ExplainsGranule trace g (word_of opening g) (final_words g) (orders g))
    → (order : List ℕ) × Explains opening final_words trace order
    × ((g : ℕ) → (filter (is_of trace g) order ≡ orders g)
    × (word_of (memory_after trace opening order) g ≡ last_word trace (word_of opening g) (orders g)))

-- The other way round: what an order of the whole trace has of a granule explains it, and leaves its word.
abbrev pub PartsExplain : Type 0
PartsExplain = (opening : Memory) (final_words : ℕ → Option ℕ) (trace : List Operation) (order : List ℕ) → IsMemory opening → IsTrace trace
    → Explains opening final_words trace order → (g : ℕ)
    → ExplainsGranule trace g (word_of opening g) (final_words g) (filter (is_of trace g) order)
    × (word_of (memory_after trace opening order) g ≡ last_word trace (word_of opening g) (filter (is_of trace g) order))

-- An order in time of places of the trace explains it where what it has of each granule explains the granule, and it leaves
-- each granule's word.
abbrev pub PartsJoin : Type 0
PartsJoin = (opening : Memory) (final_words : ℕ → Option ℕ) (trace : List Operation) (order : List ℕ) → IsMemory opening → IsTrace trace
    → All (λ i. is_place trace i ≡ true) order → IsInTime trace order
    → ((g : ℕ) → ExplainsGranule trace g (word_of opening g) (final_words g) (filter (is_of trace g) order))
    → Explains opening final_words trace order
    × ((g : ℕ) → word_of (memory_after trace opening order) g ≡ last_word trace (word_of opening g) (filter (is_of trace g) order))
