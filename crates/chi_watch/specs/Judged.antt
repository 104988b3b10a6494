-- what is judged of events: the operations of each granule, as far as all that wrote to it is told
use Rattle.std.specs.Prelude.{ℕ, ◌-◌, ◌^◌, ◌==◌, nat_le, nat_lt, Bool, false, not, ◌&&◌, if◌then◌else◌, List, [], ◌∷◌, Option, Some, None, is_none, flat_map}
use Rattle.std.specs.List.{list_any}
use Rattle.chi_events.specs.declared.event.Event.{Event}
use Rattle.chi_events.specs.declared.event.EventKind.{EventKind}
use Rattle.chi_events.specs.declared.event.EventKind.TheVariants.{Word}
use Rattle.chi_events.specs.Operations.{operations}
use Rattle.chi_judge.specs.Until.{until}
use Rattle.chi_trace.specs.Explains.{Explains}
use Rattle.chi_trace.specs.Granules.{ExplainsGranule, granule_of}
use Rattle.chi_trace.specs.declared.operation.Operation.{Operation}
use Rattle.chi_trace.specs.Words.{find_word, memory_of, word_or_zero}
use Rattle.chi_watch.specs.WordsTold.{covers, final_words, openings, writes_told}

-- it tells the granule's word, not as the one at the end
abbrev pub tells_word : ℕ → EventKind → Bool
tells_word g (Word w) = w.granule == g
tells_word g _ = false

-- it does so by a time
abbrev pub is_word_by : ℕ → ℕ → Event → Bool
is_word_by g time e = tells_word g e.kind && nat_le e.time time

-- The time from which on something that is not told may have written to the granule, for an operation that starts at a time: that of
-- the first event that says so and after which the granule's word is not told by then.
unfoldable pub unknown_at : List Event → ℕ → ℕ → Option ℕ
unknown_at [] g time = None
unknown_at (e ∷ events) g time =
    if covers g e.kind && not (list_any (is_word_by g time) events) then Some e.time else unknown_at events g time

-- the same at the end
abbrev pub unknown_since : List Event → ℕ → Option ℕ
unknown_since events g = unknown_at events g (2 ^ 64 - 1)

-- all that wrote to the granule is told, or its word was told since
abbrev pub is_known : List Event → ℕ → Bool
is_known events g = is_none (unknown_since events g)

-- an operation, as far as it had happened before something that is not told may have written to its granule
abbrev pub judged_part : List Event → Operation → List Operation
judged_part events op = until (unknown_at events (granule_of op) op.start) (op ∷ [])

-- an operation among others, before the first of them that starts later
unfoldable pub among : Operation → List Operation → List Operation
among op [] = op ∷ []
among op (other ∷ ops) = if nat_lt op.start other.start then op ∷ other ∷ ops else other ∷ among op ops

unfoldable pub all_among : List Operation → List Operation → List Operation
all_among [] ops = ops
all_among (op ∷ more) ops = among op (all_among more ops)

-- the operations that are told, and the writes that stand for words, in the order of their starts
abbrev pub operations_and_writes : List Event → List Operation
operations_and_writes events = all_among (writes_told events) (operations events)

abbrev pub judged : List Event → List Operation
judged events = flat_map (judged_part events) (operations_and_writes events)

-- the word that was told of a granule at the end
abbrev pub final_of : List Event → ℕ → Option ℕ
final_of events g = if is_known events g then find_word (final_words events) g else None

-- some order explains what is judged of a granule, from its word at the opening to the one that was told at the end
abbrev pub CanBeExplained : List Event → ℕ → Type 0
CanBeExplained events g = (order : List ℕ) × ExplainsGranule (judged events) g (word_or_zero (openings events) g) (final_of events g) order

-- the order explains the operations that are judged, and leaves the words that were told at the end
abbrev pub IsExplainedBy : List Event → List ℕ → Type 0
IsExplainedBy events order = Explains (memory_of (openings events)) (final_of events) (judged events) order

-- Some order explains the operations that are judged.
abbrev pub IsExplained : List Event → Type 0
IsExplained events = (order : List ℕ) × IsExplainedBy events order
