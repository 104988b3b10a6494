-- the statuses of answers and faults
use Rattle.std.specs.Prelude.{◌≡◌, ℕ, ◌⊎◌, ◌≤◌, if◌then◌else◌}
use Rattle.chi_answer.specs.declared.answer.Answer.{Answer}
use Rattle.chi_answer.specs.declared.answer.Answer.TheVariants.{Explained, Blamed, Unexplained, Undecided}
use Rattle.chi_reading.specs.declared.fault.TraceFault.{TraceFault}
use Rattle.chi_reading.specs.declared.fault.TraceFault.TheVariants as trace_fault
use Rattle.chi_watch_text.specs.Illegal.{is_illegal}
use Rattle.chi_watch_text.specs.declared.fault.LinesFault.{LinesFault}
use Rattle.chi_watch_text.specs.declared.fault.LinesFault.TheVariants as lines_fault
use Rattle.chi_check.specs.declared.fault.CheckFault.{CheckFault}
use Rattle.chi_check.specs.declared.fault.CheckFault.TheVariants.{Input, File, Plan, Page, Unfinished, Untold, Unsaved, Unshown, Write}
use Rattle.chi_check.specs.declared.fault.PlanFileFault.{PlanFileFault}
use Rattle.chi_check.specs.declared.fault.PlanFileFault.TheVariants.{Read, TooLong, Refused}
use Rattle.chi_plan.specs.declared.fault.PlanFault.TheVariants as plan_fault
use Rattle.chi_check.specs.declared.fault.SourceFault.{SourceFault}
use Rattle.chi_check.specs.declared.fault.SourceFault.TheVariants as source_fault

-- a trace that is refused, or for which there is no memory
abbrev pub trace_status : TraceFault → ℕ
trace_status trace_fault.Memory = 4
trace_status _ = 3

-- a line whose flit is not legal at the port, or one that is refused, or out of memory, or a read or a write that failed
abbrev pub lines_status : LinesFault → ℕ
lines_status lines_fault.Read = 5
lines_status lines_fault.Memory = 4
lines_status lines_fault.Write = 5
lines_status fault = if is_illegal fault then 1 else 3

-- an input of which there is nothing to write
abbrev pub source_status : SourceFault → ℕ
source_status source_fault.Read = 5
source_status source_fault.TooLong = 3
source_status source_fault.Memory = 4
source_status (source_fault.Trace fault) = trace_status fault
source_status (source_fault.Events fault) = lines_status fault

-- a plan that is refused, or for which there is no memory, or whose file was not read
abbrev pub plan_status : PlanFileFault → ℕ
plan_status Read = 5
plan_status TooLong = 3
plan_status (Refused plan_fault.Memory) = 4
plan_status (Refused fault) = 3

-- 3 where the trace or an event is refused, 4 out of memory, 5 where a device failed
abbrev pub status_of : CheckFault → ℕ
status_of (Input fault) = source_status fault
status_of (File place fault) = source_status fault
status_of (Plan fault) = plan_status fault
status_of (Untold addr) = 3
status_of Page = 5
status_of (Unfinished fault) = lines_status fault
status_of Unsaved = 5
status_of Unshown = 5
status_of (Write fault) = 5

-- 0 where the trace is explained, 1 where it is not, 6 where that is undecided
abbrev pub answer_status : Answer → ℕ
answer_status (Explained order) = 0
answer_status (Blamed blame further) = 1
answer_status (Unexplained granule words) = 1
answer_status (Undecided doubt) = 6

-- the status of an answer
abbrev pub IsAnswerStatus : ℕ → Type 0
IsAnswerStatus n = (n ≡ 0) ⊎ ((n ≡ 1) ⊎ (n ≡ 6))

-- 0 explained or covered as required, 1 not explained or covered less, 2 arguments refused, 3 to 5 for the faults, 6 undecided
abbrev pub IsStatus : ℕ → Type 0
IsStatus n = n ≤ 6
