-- the operations of a trace, executed in an order
use Rattle.std.specs.Prelude.{ℕ, Bool, ◌||◌, if◌then◌else◌, List, [], ◌∷◌, Option, Some, None, is_some}
use Rattle.std.specs.List.{list_any}
use Rattle.chi_lanes.specs.After.{after, answer}
use Rattle.chi_lanes.specs.Memory.{Memory}
use Rattle.chi_lanes.specs.declared.reply.Reply.{Reply}
use Rattle.chi_trace.specs.declared.operation.Operation.{Operation}
use Rattle.chi_trace.specs.Explains.{at, memory_after, word_of}
use Rattle.chi_trace.specs.Granules.{is_of}
use Rattle.chi_trace.specs.Traces.{TraceValue}
use Rattle.chi_trace.specs.Words.{find_word, memory_of}

-- the reply to each operation of the order: the answer of the memory that those before it leave
unfoldable pub replies_in : List Operation → Memory → List ℕ → List Reply
replies_in ops m [] = []
replies_in ops m (i ∷ order) = answer (at ops i).access m ∷ replies_in ops (after (at ops i).access m) order

-- a word of the granule was told at the opening, or an operation of the order is the granule's
abbrev pub is_known : TraceValue → List ℕ → ℕ → Bool
is_known t order g = is_some (find_word t.opening g) || list_any (is_of t.operations g) order

-- the words of these granules after the order
abbrev pub told_after : TraceValue → List ℕ → ℕ → Option ℕ
told_after t order g = if is_known t order g then Some (word_of (memory_after t.operations (memory_of t.opening) order) g) else None
