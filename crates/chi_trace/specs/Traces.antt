-- a trace as one value, and what explains it
use Rattle.std.specs.Prelude.{◌≡◌, ℕ, List}
use Rattle.chi_trace.specs.declared.operation.Operation.{Operation}
use Rattle.chi_trace.specs.Cuts.{cut}
use Rattle.chi_trace.specs.Explains.{Explains, memory_after, unobserved, word_of}
use Rattle.chi_trace.specs.Granules.{ExplainsGranule}
use Rattle.chi_trace.specs.declared.words.GranuleWord.{GranuleWord}
use Rattle.chi_trace.specs.Words.{find_word, memory_of, word_or_zero}

-- the words at the opening, where others than 0 are told, and the operations in the order of their starts
pub record TraceValue : Type 0 where
  pub opening : List GranuleWord
  pub operations : List Operation

-- what had happened by a time
abbrev pub trace_at : ℕ → TraceValue → TraceValue
trace_at time t = record t { operations = cut time t.operations }

-- the order explains the operations from the words at the opening, and leaves the words that were observed at the end
abbrev pub IsExplained : TraceValue → List GranuleWord → List ℕ → Type 0
IsExplained t final_words order = Explains (memory_of t.opening) (find_word final_words) t.operations order

-- the order explains the operations of this granule alone
abbrev pub IsExplainedIn : TraceValue → List GranuleWord → ℕ → List ℕ → Type 0
IsExplainedIn t final_words g order = ExplainsGranule t.operations g (word_or_zero t.opening g) (find_word final_words g) order

-- the same where no words were observed at the end
abbrev pub IsLegal : TraceValue → List ℕ → Type 0
IsLegal t order = Explains (memory_of t.opening) unobserved t.operations order

-- some order that explains the operations leaves this word in a granule
abbrev pub CanHold : TraceValue → ℕ → ℕ → Type 0
CanHold t g v = (order : List ℕ) × IsLegal t order × (word_of (memory_after t.operations (memory_of t.opening) order) g ≡ v)
