-- what a check does: the answer of the trace that its input is
use Rattle.std.specs.Prelude.{◌≡◌, ◌≢◌, ℕ, ◌/◌, ◌<◌, ◌≤◌, ◌==◌, ◌||◌, Bool, if◌then◌else◌, is_some, List, length, Option, None, Some, IfSome, IsSomeAnd, IsTrue, Result, Ok, Err}
use Rattle.std.specs.Io.KnownBytes.{Appends, Keeps}
use Rattle.std.specs.List.{list_any}
use Rattle.chi_trace.specs.Granules.{granule_of}
use Rattle.chi_trace.specs.Words.{find_word}
use Rattle.chi_trace.specs.declared.operation.Operation.{Operation}
use Rattle.chi_script.specs.WriterBytes.{AppendsFront}
use Rattle.chi_search.specs.Looks.{FoundBy, GrewBy, Search}
use Rattle.chi_reading.specs.declared.fault.TraceFault.TheVariants as trace_fault
use Rattle.chi_reading.specs.TraceText.{IsOf, RecordedValue, TextValue, alone, cut_at, trace_text}
use Rattle.chi_watch_text.specs.Outcomes.{IsLinesFault}
use Rattle.chi_watch_text.specs.Recorded.{IsRecorded}
use Rattle.chi_watch_text.specs.declared.line_format.LineFormat.{LineFormat}
use Rattle.chi_answer.specs.declared.answer.Answer.{Answer}
use Rattle.chi_answer.specs.Answers.{IfUndecided, IsAnswer}
use Rattle.chi_check.specs.CheckStatus.{answer_status}
use Rattle.chi_check.specs.Limits.{IsWithin}
use Rattle.chi_check.specs.declared.fault.CheckFault.{CheckFault}
use Rattle.chi_check.specs.declared.fault.CheckFault.TheVariants.{Input, Page, Unfinished, Untold, Unsaved, Unshown, Write}
use Rattle.chi_check.specs.declared.fault.SourceFault.{SourceFault}
use Rattle.chi_check.specs.declared.fault.SourceFault.TheVariants as source_fault
use Rattle.chi_check.specs.declared.options.CheckOptions.{CheckOptions}
use Rattle.chi_check.specs.Written.{IsWritten}

-- the greatest number of bytes of a trace
abbrev pub most_bytes : ℕ
most_bytes = 536870912

-- the input has this trace: it is its text, or its lines tell the events of it
abbrev pub HasTrace : Option LineFormat → List ℕ → RecordedValue → Type 0
HasTrace None input r = (value : TextValue) × (trace_text input ≡ Ok value) × IsOf value r
HasTrace (Some format) input r = IsRecorded format input r

-- why it has none
abbrev pub HasNoTrace : Option LineFormat → List ℕ → SourceFault → Type 0
HasNoTrace lines input source_fault.Read = ⊥
HasNoTrace lines input source_fault.TooLong = ⊥
HasNoTrace lines input source_fault.Memory = Unit {0}
HasNoTrace lines input (source_fault.Trace fault) = (lines ≡ None) × (fault ≢ trace_fault.Memory → trace_text input ≡ Err fault)
HasNoTrace lines input (source_fault.Events fault) = IsSomeAnd lines (λ format. IsLinesFault format input fault)

-- of a trace all granules, or the one at an address
abbrev pub asked : Option ℕ → RecordedValue → RecordedValue
asked None r = r
asked (Some addr) r = alone (addr / 8) r

-- an operation or a word of the granule is told
abbrev pub has_operation : ℕ → List Operation → Bool
has_operation g ops = list_any (λ op. granule_of op == g) ops

abbrev pub tells_of : ℕ → RecordedValue → Bool
tells_of g r = has_operation g r.trace.operations || is_some (find_word r.trace.opening g) || is_some (find_word r.final_words g)

-- the address that is asked for, where nothing is told of its granule
abbrev pub untold : Option ℕ → RecordedValue → Option ℕ
untold None r = None
untold (Some addr) r = if tells_of (addr / 8) r then None else Some addr

-- and all of it, or what had happened by a time
abbrev pub happened : Option ℕ → RecordedValue → RecordedValue
happened None r = r
happened (Some time) r = cut_at time r

-- what is judged of a trace
abbrev pub judged : CheckOptions → RecordedValue → RecordedValue
judged options r = happened options.until (asked options.granule r)

-- the answer is a right one of the trace, undecided only after as many states as may be looked at, and this is what is written of it
pub record IsRight (IsCut : Option ℕ → Type 0) (options : CheckOptions) (r : RecordedValue) (answer : Answer) (text : List ℕ) : Type 0 where
  pub right : IsAnswer r options.around answer
  pub undecided : IfUndecided answer (λ doubt. IsWithin options doubt.states)
  pub text_is : IsWritten IsCut options r answer text

-- the input has a trace, this is a right answer of it, and this its text
pub record Answers (IsCut : Option ℕ → Type 0) (options : CheckOptions) (input : List ℕ) (answer : Answer) (text : List ℕ) : Type 0 where
  pub within : length input ≤ most_bytes
  pub recorded : RecordedValue
  pub has_trace : HasTrace options.lines input recorded
  pub right : IsRight IsCut options (judged options recorded) answer text

-- After Ok the text of a right answer of the input's trace was written, and this is its status. What each fault means,
-- and what was written then: nothing but where the writer failed.
abbrev pub Outcome : (Option ℕ → Type 0) → CheckOptions → List ℕ → Option (List ℕ) → Option (List ℕ) → Result ℕ CheckFault → Type 0
Outcome IsCut options input old new (Ok status) = (answer : Answer) × (text : List ℕ) × Answers IsCut options input answer text × (status ≡ answer_status answer) × Appends old new text
Outcome IsCut options input old new (Err (Input source_fault.Read)) = Unit {0}
Outcome IsCut options input old new (Err (Input source_fault.TooLong)) = most_bytes < length input
Outcome IsCut options input old new (Err (Input source_fault.Memory)) = Unit {0}
Outcome IsCut options input old new (Err (Input (source_fault.Trace fault))) = HasNoTrace options.lines input (source_fault.Trace fault)
Outcome IsCut options input old new (Err (Input (source_fault.Events fault))) = HasNoTrace options.lines input (source_fault.Events fault)
Outcome IsCut options input old new (Err (Untold addr)) = (recorded : RecordedValue) × HasTrace options.lines input recorded × (untold options.granule recorded ≡ Some addr)
Outcome IsCut options input old new (Err Page) = (answer : Answer) × (text : List ℕ) × Answers IsCut options input answer text × IsTrue (is_some options.html)
Outcome IsCut options input old new (Err (Write fault)) = (answer : Answer) × (text : List ℕ) × Answers IsCut options input answer text × AppendsFront old new text
Outcome IsCut options input old new (Err fault) = ⊥

-- nothing is written where no answer was found, but granules before a fault of the events, or where lines were not saved or no page of a granule was put
abbrev pub KeepsUnanswered : Option (List ℕ) → Option (List ℕ) → Result ℕ CheckFault → Type 0
KeepsUnanswered old new (Ok status) = Unit {0}
KeepsUnanswered old new (Err (Write fault)) = Unit {0}
KeepsUnanswered old new (Err (Unfinished fault)) = Unit {0}
KeepsUnanswered old new (Err Unsaved) = Unit {0}
KeepsUnanswered old new (Err Unshown) = Unit {0}
KeepsUnanswered old new (Err fault) = Keeps old new

-- why an input was not read whole
abbrev pub IsReadFault : Option (List ℕ) → CheckFault → Type 0
IsReadFault input (Input source_fault.Read) = Unit {0}
IsReadFault input (Input source_fault.TooLong) = IfSome input (λ bytes. most_bytes < length bytes)
IsReadFault input (Input source_fault.Memory) = Unit {0}
IsReadFault input fault = ⊥

-- So many states were looked at for the verdict that the status is of: no fewer than may be where it is that of an undecided trace.
pub record LookedForStatus {P : Type 0} (states : P → ℕ → Type 0) (looked : Search → P → ℕ → Type 0) (old new : P) (options : CheckOptions) (status : ℕ) : Type 0 where
  pub count : ℕ
  pub found : FoundBy states looked old new count
  pub grew : GrewBy states old new count
  pub undecided : status ≡ 6 → (states : ℕ) × IsWithin options states × (states ≤ count)
