-- the trace of a run, as a checker of traces reads it
use Rattle.std.specs.Prelude.{◌≡◌, ℕ, ◌/◌, List, Some, Ok}
use Rattle.chi_trace.specs.Explains.{IsTrace}
use Rattle.chi_trace.specs.Traces.{IsExplained}
use Rattle.chi_reading.specs.Told.{region_words}
use Rattle.chi_reading.specs.TraceText.{IsOf, RecordedValue, TextValue, trace_text}
use Rattle.chi_script.specs.Script.{ScriptValue, script}
use Rattle.chi_engine.specs.Run.{most_src}
use Rattle.chi_engine.specs.Trace.{IsTraceText, final_words_of, lines_of}
use Rattle.chi_run_laws.specs.Executed.{executed, refusals_in}

-- What is read is the script's run: its region, with the words of its granules before and after, the operations of its requests,
-- and why the others were refused.
pub record IsRunOf (s : ScriptValue) (t : TextValue) : Type 0 where
  pub region : t.memory.region ≡ Some s.region
  pub opening : t.memory.opening ≡ region_words (s.region.base / 8) s.image
  pub final_words : t.memory.final_words ≡ region_words (s.region.base / 8) (final_words_of s)
  pub operations : t.completed.operations ≡ executed (lines_of s)
  pub refusals : t.completed.refusals ≡ refusals_in (lines_of s)

-- The text of the trace of a script's run is a trace, and reads as that run.
abbrev pub TraceOfRunIsRead : Type 0
TraceOfRunIsRead = (input text : List ℕ) (s : ScriptValue) → script input most_src ≡ Ok s → IsTraceText s text
    → (t : TextValue) × (trace_text text ≡ Ok t) × IsRunOf s t

-- What is recorded of it, in the order of the operations' starts, has the operations in the order of the script.
abbrev pub RunIsReadInOrder : Type 0
RunIsReadInOrder = (s : ScriptValue) (t : TextValue) (r : RecordedValue) → IsRunOf s t → IsOf t r → IsTrace r.trace.operations
    → r.trace.operations ≡ executed (lines_of s)

-- And some order explains it, with the words at the opening and at the end.
abbrev pub RunIsExplained : Type 0
RunIsExplained = (input : List ℕ) (s : ScriptValue) (t : TextValue) (r : RecordedValue) → script input most_src ≡ Ok s → IsRunOf s t → IsOf t r
    → IsTrace r.trace.operations → (order : List ℕ) × IsExplained r.trace r.final_words order
