-- the text of an order that explains a trace
use Rattle.std.specs.Prelude.{◌≡◌, ℕ, ◌*◌, ◌^◌, ◌%◌, List, [], ◌∷◌, ◌++◌, flat_map, Some}
use Rattle.chi_lanes.specs.After.{after, answer}
use Rattle.chi_lanes.specs.Memory.{Memory}
use Rattle.chi_script.specs.Transcript.{granule_text}
use Rattle.chi_trace.specs.Explains.{at}
use Rattle.chi_trace.specs.declared.words.GranuleWord.{GranuleWord}
use Rattle.chi_trace.specs.Executions.{told_after}
use Rattle.chi_trace.specs.Traces.{TraceValue}
use Rattle.chi_trace.specs.Words.{AreInOrder, find_word, memory_of}
use Rattle.chi_reading.specs.TraceText.{RecordedValue}
use Rattle.chi_answer.specs.Lines.{operation_text}

-- the lines of the operations in an order, from a memory on: each with the answer of the memory that those before it leave
unfoldable pub operation_lines : RecordedValue → Memory → List ℕ → List ℕ
operation_lines r m [] = []
operation_lines r m (i ∷ order) =
    operation_text (at r.trace.operations i) (Some (answer (at r.trace.operations i).access m)) ++ operation_lines r (after (at r.trace.operations i).access m) order

-- the line of a granule of the memory
abbrev pub memory_line : GranuleWord → List ℕ
memory_line w = granule_text (w.granule * 8 % 2 ^ 64) w.word

-- the words after an order, of each granule of which one was told at the opening or that has an operation of the order
pub record AreLeft (t : TraceValue) (order : List ℕ) (words : List GranuleWord) : Type 0 where
  pub in_order : AreInOrder words
  pub each : (g : ℕ) → find_word words g ≡ told_after t order g

-- the lines of the operations in the order, and of the memory after them
abbrev pub IsWitness : RecordedValue → List ℕ → List ℕ → Type 0
IsWitness r order text =
    (words : List GranuleWord) × AreLeft r.trace order words × (text ≡ operation_lines r (memory_of r.trace.opening) order ++ flat_map memory_line words)
