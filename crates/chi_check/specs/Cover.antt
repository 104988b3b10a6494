-- what a count does: it writes what the operations covered that its inputs tell, what each input added, and how many requests were refused
use Rattle.std.specs.Prelude.{◌≡◌, ◌≢◌, ℕ, ◌-◌, ◌<◌, ◌≤◌, List, [], ◌∷◌, ◌++◌, Contains, length, map, min, slice_get, sum_by, is_some, Option, None, Some, IfSome, IsSomeAnd, IsTrue, Result, Ok, Err}
use Rattle.std.specs.Io.KnownBytes.{Appends}
use Rattle.chi_script.specs.WriterBytes.{AppendsFront}
use Rattle.chi_fields.specs.declared.refusal.Refusal.{Refusal}
use Rattle.chi_trace.specs.declared.operation.Operation.{Operation}
use Rattle.chi_trace.specs.Explains.{IsTrace}
use Rattle.chi_reading.specs.declared.fault.TraceFault.TheVariants as trace_fault
use Rattle.chi_reading.specs.TraceText.{IsOf, RecordedValue, TextValue, trace_text}
use Rattle.chi_watch_text.specs.Operations.{AreOperations, AreRefusals, IsOperationsFault}
use Rattle.chi_watch_text.specs.declared.line_format.LineFormat.{LineFormat}
use Rattle.chi_cover.specs.declared.bin.Bin.{Bin}
use Rattle.chi_cover.specs.AddedLines.{added_lines}
use Rattle.chi_cover.specs.Bins.{all_bins}
use Rattle.chi_cover.specs.Counts.{IsAdded, count_in, count_of, covered_of, most, percent_of}
use Rattle.chi_cover.specs.Json.{cover_json}
use Rattle.chi_cover.specs.Page.{page_text}
use Rattle.chi_cover.specs.Plan.{PlanValue, goal_in}
use Rattle.chi_cover.specs.Refusals.{AreRefused, refusals_text, refused_in, refused_times}
use Rattle.chi_cover.specs.Texts.{table_text}
use Rattle.chi_check.specs.Check.{most_bytes}
use Rattle.chi_check.specs.Planned.{IsPlanFault, IsPlanned}
use Rattle.chi_check.specs.declared.inputs.Counted.{Counted}
use Rattle.chi_check.specs.declared.fault.CheckFault.{CheckFault}
use Rattle.chi_check.specs.declared.fault.CheckFault.TheVariants.{Input, File, Plan, Page, Write}
use Rattle.chi_check.specs.declared.fault.SourceFault.{SourceFault}
use Rattle.chi_check.specs.declared.fault.SourceFault.TheVariants as source_fault
use Rattle.chi_answer.specs.declared.format.AnswerFormat.{AnswerFormat}
use Rattle.chi_answer.specs.declared.format.AnswerFormat.TheVariants.{Text, Json}
use Rattle.chi_check.specs.declared.options.CoverOptions.{CoverOptions}

-- the paths that were named
abbrev pub paths_of : CoverOptions → List (List ℕ)
paths_of options = map (λ path. path.now) options.files.items

-- the files of these paths hold these inputs
unfoldable pub AreHeld : (List ℕ → List ℕ → Type 0) → List (List ℕ) → List (List ℕ) → Type 0
AreHeld holds [] [] = Unit {0}
AreHeld holds (path ∷ paths) (input ∷ inputs) = holds path input × AreHeld holds paths inputs
AreHeld holds paths inputs = ⊥

-- the inputs are what these files hold, and where none is named the standard input
abbrev pub AreInputs : (List ℕ → List ℕ → Type 0) → List (List ℕ) → List ℕ → List (List ℕ) → Type 0
AreInputs holds [] input inputs = inputs ≡ input ∷ []
AreInputs holds (path ∷ paths) input inputs = AreHeld holds (path ∷ paths) inputs

-- the input is a trace of these operations, by their starts, whose other requests were refused for these reasons
pub record IsTraceOf (input : List ℕ) (ops : List Operation) (refusals : List Refusal) : Type 0 where
  pub value : TextValue
  pub read : trace_text input ≡ Ok value
  pub recorded : RecordedValue
  pub is : IsOf value recorded
  pub operations : recorded.trace.operations ≡ ops
  pub sorted : IsTrace ops
  pub refused : recorded.refusals ≡ refusals

-- the operations of an input, and why its other requests were refused: those of the trace that it is, or those that its events tell
abbrev pub AreOf : Option LineFormat → List ℕ → List Operation → List Refusal → Type 0
AreOf (Some format) input ops refusals = AreOperations format input ops × AreRefusals format input refusals
AreOf None input ops refusals = IsTraceOf input ops refusals

-- what one input tells
pub record Told : Type 0 where
  pub operations : List Operation
  pub refusals : List Refusal

-- this is what each input tells
unfoldable pub AreOfEach : Option LineFormat → List (List ℕ) → List Told → Type 0
AreOfEach lines [] [] = Unit {0}
AreOfEach lines (input ∷ inputs) (told ∷ others) = (length input ≤ most_bytes) × AreOf lines input told.operations told.refusals × AreOfEach lines inputs others
AreOfEach lines inputs others = ⊥

-- how many operations of these inputs a bin counts, and the greatest count stands for that many and more
abbrev pub counts_of : List Told → Bin → ℕ
counts_of told bin = min (sum_by (λ t. count_of t.operations bin) told) most

-- each bin's count is that
abbrev pub AreCounts : List Told → List ℕ → Type 0
AreCounts told counts = (bin : Bin) → Contains all_bins bin → count_in counts bin ≡ counts_of told bin

-- so is each reason's of the requests of these inputs that were refused for it
abbrev pub AreRefusalCounts : List Told → List ℕ → Type 0
AreRefusalCounts told counts = (reason : Refusal) → refused_in counts reason ≡ min (sum_by (λ t. refused_times t.refusals reason) told) most

-- how many bins are covered by these inputs
abbrev pub covered_by : (Bin → Option ℕ) → List Told → ℕ
covered_by goals told = covered_of goals (counts_of told) all_bins

-- How many bins each further input added: how many are covered by the inputs up to it and with it, less how many are covered by those
-- before it.
unfoldable pub added_after : (Bin → Option ℕ) → List Told → List Told → List ℕ
added_after goals before [] = []
added_after goals before (told ∷ others) = (covered_by goals (before ++ told ∷ []) - covered_by goals before) ∷ added_after goals (before ++ told ∷ []) others

-- how many bins each input added
abbrev pub added_of : (Bin → Option ℕ) → List Told → List ℕ
added_of goals told = added_after goals [] told

-- these are the counts of what these inputs tell, and of how many bins each added
pub record AreCounted (goals : Bin → Option ℕ) (lines : Option LineFormat) (inputs : List (List ℕ)) (counted : Counted) : Type 0 where
  pub told : List Told
  pub of : AreOfEach lines inputs told
  pub are : AreCounts told counted.covered
  pub refused : AreRefusalCounts told counted.refusals
  pub added : counted.added.items ≡ added_of goals told

-- the text of counts: the table of what was covered by a plan, how many requests were refused, and what each of the files added where
-- two or more are named
abbrev pub cover_text : CoverOptions → PlanValue → Counted → List ℕ
cover_text options plan counted =
    table_text plan (count_in counted.covered) ++ (refusals_text (refused_in counted.refusals) ++ added_lines counted.added.items (paths_of options))

-- the JSON of counts
abbrev pub json_of : PlanValue → Counted → List ℕ
json_of plan counted = cover_json plan counted.added.items (count_in counted.covered) (refused_in counted.refusals)

-- what is written of counts, in the form that is asked for
abbrev pub written_in : AnswerFormat → CoverOptions → PlanValue → Counted → List ℕ
written_in Text options plan counted = cover_text options plan counted
written_in Json options plan counted = json_of plan counted

abbrev pub written_of : CoverOptions → PlanValue → Counted → List ℕ
written_of options plan counted = written_in options.format options plan counted

-- 1 where fewer of a hundred bins are covered than have to be, and else 0
pub record IsCoverStatus (require percent status : ℕ) : Type 0 where
  pub below : percent < require → status ≡ 1
  pub reached : require ≤ percent → status ≡ 0

-- why an input, which is a trace or tells lines, has no operations
abbrev pub IsTraceFault : Option LineFormat → List ℕ → SourceFault → Type 0
IsTraceFault lines input source_fault.Read = ⊥
IsTraceFault lines input source_fault.TooLong = ⊥
IsTraceFault lines input source_fault.Memory = Unit {0}
IsTraceFault lines input (source_fault.Trace fault) = (lines ≡ None) × (fault ≢ trace_fault.Memory → trace_text input ≡ Err fault)
IsTraceFault lines input (source_fault.Events fault) = IsSomeAnd lines (λ format. IsOperationsFault format input fault)

-- why a file was not counted: it was not read, or what it holds has no operations
abbrev pub IsFileFault : (List ℕ → List ℕ → Type 0) → Option LineFormat → List ℕ → SourceFault → Type 0
IsFileFault holds lines path source_fault.Read = Unit {0}
IsFileFault holds lines path source_fault.TooLong = Unit {0}
IsFileFault holds lines path source_fault.Memory = Unit {0}
IsFileFault holds lines path fault = (input : List ℕ) × holds path input × IsTraceFault lines input fault

-- how many bins are covered by counts
abbrev pub covered_in : (Bin → Option ℕ) → List ℕ → ℕ
covered_in goals counts = covered_of goals (count_in counts) all_bins

-- the new counts have counted these operations and refusals more, and how many more bins are covered
pub record AddsTold (goals : Bin → Option ℕ) (ops : List Operation) (refusals : List Refusal) (old new : Counted) : Type 0 where
  pub covered : IsAdded ops old.covered new.covered
  pub refused : AreRefused refusals old.refusals new.refusals
  pub added : new.added.items ≡ old.added.items ++ (covered_in goals new.covered - covered_in goals old.covered) ∷ []

-- the new counts have counted what an input tells more
abbrev pub Adds : (Bin → Option ℕ) → Option LineFormat → List ℕ → Counted → Counted → Type 0
Adds goals lines input old new = (ops : List Operation) × (refusals : List Refusal) × AreOf lines input ops refusals × AddsTold goals ops refusals old new

-- the same of what the file of a path holds
abbrev pub AddsFile : (List ℕ → List ℕ → Type 0) → (Bin → Option ℕ) → Option LineFormat → List ℕ → Counted → Counted → Type 0
AddsFile holds goals lines path old new = (input : List ℕ) × holds path input × (length input ≤ most_bytes) × Adds goals lines input old new

-- these are the counts of what these files hold
abbrev pub AreOfFiles : (List ℕ → List ℕ → Type 0) → (Bin → Option ℕ) → Option LineFormat → List (List ℕ) → Counted → Type 0
AreOfFiles holds goals lines paths counted = (inputs : List (List ℕ)) × AreHeld holds paths inputs × AreCounted goals lines inputs counted

-- the inputs have these counts
abbrev pub HasCounts : (List ℕ → List ℕ → Type 0) → CoverOptions → (Bin → Option ℕ) → List ℕ → Counted → Type 0
HasCounts holds options goals input counted =
    (inputs : List (List ℕ)) × AreInputs holds (paths_of options) input inputs × AreCounted goals options.lines inputs counted

-- why the standard input was not counted
abbrev pub IsInputFault : Option LineFormat → List ℕ → CheckFault → Type 0
IsInputFault lines input (Input source_fault.Read) = Unit {0}
IsInputFault lines input (Input source_fault.TooLong) = most_bytes < length input
IsInputFault lines input (Input source_fault.Memory) = Unit {0}
IsInputFault lines input (Input (source_fault.Trace fault)) = IsTraceFault lines input (source_fault.Trace fault)
IsInputFault lines input (Input (source_fault.Events fault)) = IsTraceFault lines input (source_fault.Events fault)
IsInputFault lines input fault = ⊥

-- why the files were not counted
abbrev pub AreFilesFault : (List ℕ → List ℕ → Type 0) → Option LineFormat → List (List ℕ) → CheckFault → Type 0
AreFilesFault holds lines paths (Input source_fault.Memory) = Unit {0}
AreFilesFault holds lines paths (File place fault) = (path : List ℕ) × (slice_get paths place ≡ Some path) × IsFileFault holds lines path fault
AreFilesFault holds lines paths fault = ⊥

-- why the inputs were not counted: the standard input, or the files where some are named
abbrev pub AreInputsFault : (List ℕ → List ℕ → Type 0) → Option LineFormat → List (List ℕ) → List ℕ → CheckFault → Type 0
AreInputsFault holds lines [] input fault = IsInputFault lines input fault
AreInputsFault holds lines (path ∷ paths) input fault = AreFilesFault holds lines (path ∷ paths) fault

-- the plan was read and has these counts
pub record HasPlanned (holds : List ℕ → List ℕ → Type 0) (options : CoverOptions) (input : List ℕ) (plan : PlanValue) (counted : Counted) : Type 0 where
  pub planned : IsPlanned holds options plan
  pub counts : HasCounts holds options (goal_in plan) input counted

-- After Ok the counts were written in the form that is asked for, and the status is 1 where fewer of a hundred bins that the plan wants
-- are covered than have to be. What each fault means, and what was written then: nothing but where the writer failed.
abbrev pub CoverOutcome : (List ℕ → List ℕ → Type 0) → CoverOptions → List ℕ → Option (List ℕ) → Option (List ℕ) → Result ℕ CheckFault → Type 0
CoverOutcome holds options input old new (Ok status) =
    (plan : PlanValue) × (counted : Counted) × HasPlanned holds options input plan counted × IsCoverStatus options.require (percent_of (goal_in plan) (count_in counted.covered)) status
    × Appends old new (written_of options plan counted)
CoverOutcome holds options input old new (Err Page) = (plan : PlanValue) × (counted : Counted) × HasPlanned holds options input plan counted × IsTrue (is_some options.html)
CoverOutcome holds options input old new (Err (Write fault)) =
    (plan : PlanValue) × (counted : Counted) × HasPlanned holds options input plan counted × AppendsFront old new (written_of options plan counted)
CoverOutcome holds options input old new (Err (Plan fault)) = IsPlanFault holds options.plan fault
CoverOutcome holds options input old new (Err fault) = AreInputsFault holds options.lines (paths_of options) input fault

-- the page of counts
abbrev pub IsCoverPage : PlanValue → Counted → List ℕ → Type 0
IsCoverPage plan counted page = (front : List ℕ) × (back : List ℕ) × (page ≡ page_text front (json_of plan counted) back)

-- where one was asked for, the page of the counts that were written was put at the path
abbrev pub IsCoverPut : {P : Type 0} → (List ℕ → List ℕ → Type 0) → (P → List ℕ → List ℕ → Type 0) → CoverOptions → List ℕ → Option (List ℕ) → Option (List ℕ) → P → Type 0
IsCoverPut holds has_put options input old new pages =
    IfSome options.html (λ path. (plan : PlanValue) × (counted : Counted) × (page : List ℕ) × HasPlanned holds options input plan counted × IsCoverPage plan counted page
    × Appends old new (written_of options plan counted) × has_put pages path.now page)
