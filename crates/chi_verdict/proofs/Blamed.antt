-- what is said where a granule's operations are not explained up to a time, and the whole trace is up to the time before
use Rattle.std.proofs.Common.{◌≡◌, ℕ, List, [], None, ◌↔◌, filter, refl, subst}
use Rattle.chi_search.specs.declared.words.Words.{Words}
use Rattle.chi_search.specs.declared.words.Words.TheVariants.{Each, Unknown}
use Rattle.chi_search.specs.Found.{IfWords}
use Rattle.chi_trace.specs.declared.operation.Operation.{Operation}
use Rattle.chi_trace.specs.Cuts.{cut}
use Rattle.chi_trace.specs.Explains.{Explains, IsTrace, unobserved}
use Rattle.chi_trace.specs.Granules.{ExplainsGranule, is_of}
use Rattle.chi_trace.specs.TraceLaws.{OrdersOfGranulesExplain, PartsExplain}
use Rattle.std.specs.List.{Contains}
use Rattle.chi_trace.specs.Traces.{CanHold, IsLegal, TraceValue, trace_at}
use Rattle.chi_judge.specs.Reaches.{CanLeave}
use Rattle.chi_verdict.proofs.HeldAlone.{said_held}
use Rattle.chi_trace.specs.declared.words.GranuleWord.{GranuleWord}
use Rattle.chi_trace.specs.Words.{AreWords, find_word, memory_of, word_or_zero}
use Rattle.chi_trace.proofs.TracedCuts.{IsTrace-cut}
use Rattle.chi_trace.proofs.Memory.{IsMemory-memory_of, word_of-memory_of}

-- where no order explains a granule's operations, none explains the whole
pub whole_unexplained : PartsExplain → (opening : List GranuleWord) (ops : List Operation) (g : ℕ) → AreWords opening → IsTrace ops
    → ((order : List ℕ) → ExplainsGranule ops g (word_or_zero opening g) None order → ⊥)
    → (order : List ℕ) → Explains (memory_of opening) unobserved ops order → ⊥
whole_unexplained parts opening ops g words is none order explains =
    none (filter (is_of ops g) order)
    (subst (λ (w : ℕ). ExplainsGranule ops g w None (filter (is_of ops g) order)) (word_of-memory_of opening g words)
    (parts (memory_of opening) unobserved ops order (IsMemory-memory_of opening) is explains g).0)

-- the same at a time
pub unexplained_at : PartsExplain → (opening : List GranuleWord) (ops : List Operation) (g time : ℕ) → AreWords opening → IsTrace ops
    → ((order : List ℕ) → ExplainsGranule (cut time ops) g (word_or_zero opening g) None order → ⊥)
    → (order : List ℕ) → Explains (memory_of opening) unobserved (cut time ops) order → ⊥
unexplained_at parts opening ops g time words is none = whole_unexplained parts opening (cut time ops) g words (IsTrace-cut time ops is) none

-- no word is told where none are
pub none_is_told : (g : ℕ) → find_word [] g ≡ None
unfolding find_word
none_is_told g = refl

-- what follows from what is said of the words that were found
pub words_imply : (found : Words) (P Q : List ℕ → Type 0) → ((each : List ℕ) → P each → Q each) → IfWords found P → IfWords found Q
words_imply (Each words) P Q implies said = implies words.items said
words_imply Unknown P Q implies said = tt

-- the words that a granule's operations can leave up to the time before are those that it can hold then, where an order explains the
-- trace up to then
pub blamed_words : OrdersOfGranulesExplain → PartsExplain → (t : TraceValue) (g earlier : ℕ) (order : List ℕ) (found : Words) → AreWords t.opening → IsTrace t.operations
    → IsLegal (trace_at earlier t) order
    → IfWords found (λ each. (v : ℕ) → Contains each v ↔ CanLeave (cut earlier t.operations) g (word_or_zero t.opening g) v)
    → IfWords found (λ each. (v : ℕ) → Contains each v ↔ CanHold (trace_at earlier t) g v)
blamed_words joins parts t g earlier order found words is legal said =
    words_imply found (λ each. (other : List ℕ) → IsLegal (trace_at earlier t) other → (v : ℕ) → Contains each v ↔ CanHold (trace_at earlier t) g v)
    (λ each. (v : ℕ) → Contains each v ↔ CanHold (trace_at earlier t) g v) (λ each held. held order legal)
    (said_held joins parts (trace_at earlier t) words (IsTrace-cut earlier t.operations is) g found said)
