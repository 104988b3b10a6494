-- what the program does with its arguments
use Rattle.std.specs.Prelude.{◌≡◌, ℕ, ◌⊎◌, List, Option, Some, None, Result, Ok, Err, IfOk, IfSome}
use Rattle.std.specs.Borrow.{Bor}
use Rattle.clap.specs.Walk.{Text}
use Rattle.chi_check.specs.Check.{KeepsUnanswered, Outcome}
use Rattle.chi_check.specs.CheckStatus.{IsAnswerStatus, status_of}
use Rattle.chi_check.specs.OptionValues.{Chooses, IsArgumentsFault}
use Rattle.chi_check.specs.CommandLine.{IsTaken}
use Rattle.chi_check.specs.Cover.{CoverOutcome}
use Rattle.chi_check.specs.declared.fault.CheckFault.{CheckFault}
use Rattle.chi_check.specs.declared.command.Task.{Task}
use Rattle.chi_check.specs.declared.command.Task.TheVariants.{Explain, Watch, Cover}
use Rattle.chi_check.specs.Watch.{WatchOutcome, watching}
use Rattle.chi_program.specs.Answered.{ReportsArguments}

-- what is given to the reader of a task: by its file, where it names one, and else by the standard input
abbrev pub by_file : (List ℕ → Option (List ℕ)) → Option (Bor Text) → Option (List ℕ) → Option (List ℕ)
by_file given None input = input
by_file given (Some path) input = given path.now

abbrev pub given_to : (List ℕ → Option (List ℕ)) → Task → Option (List ℕ) → Option (List ℕ)
given_to given (Explain options file) input = by_file given file input
given_to given (Watch options file) input = by_file given file input
given_to given (Cover options) input = input

-- what a task made of its input, or of what files hold, and what it wrote
abbrev pub TaskOutcome : (Option ℕ → Type 0) → (List ℕ → List ℕ → Type 0) → Task → List ℕ → Option (List ℕ) → Option (List ℕ) → Result ℕ CheckFault → Type 0
TaskOutcome IsCut holds (Explain options file) input old new result = Outcome IsCut options input old new result
TaskOutcome IsCut holds (Watch options file) input old new result = WatchOutcome (watching options) input old new result
TaskOutcome IsCut holds (Cover options) input old new result = CoverOutcome holds options input old new result

-- the status of the answer, else that of the fault
abbrev pub end_status : Result ℕ CheckFault → ℕ
end_status (Ok status) = status
end_status (Err fault) = status_of fault

-- The task came to an outcome of this status: what it wrote, and what it made of the input where the reader's bytes
-- are known.
abbrev pub Ends : (Option ℕ → Type 0) → (List ℕ → List ℕ → Type 0) → Task → Option (List ℕ) → Option (List ℕ) → Option (List ℕ) → ℕ → Type 0
Ends IsCut holds task input old new status =
    (result : Result ℕ CheckFault) × KeepsUnanswered old new result × IfOk result IsAnswerStatus
    × IfSome input (λ bytes. TaskOutcome IsCut holds task bytes old new result) × (status ≡ end_status result)

-- the arguments name this task: `clap` finds no fault in them, and it came to its end
abbrev pub DoesTask : (Option ℕ → Type 0) → (List ℕ → List ℕ → Type 0) → (List ℕ → Option (List ℕ)) → List Text → Option (List ℕ) → Option (List ℕ) → Option (List ℕ) → ℕ → Type 0
DoesTask IsCut holds given arguments input old new status = IsTaken arguments × ((task : Task) × Chooses arguments task × Ends IsCut holds task (given_to given task input) old new status)

-- what the program does with its arguments
abbrev pub ProgramOutcome : (Option ℕ → Type 0) → (List ℕ → List ℕ → Type 0) → (List ℕ → Option (List ℕ)) → List Text → Option (List ℕ) → Option (List ℕ) → Option (List ℕ) → ℕ → Type 0
ProgramOutcome IsCut holds given arguments input old new status = ReportsArguments (IsArgumentsFault arguments) old new status ⊎ DoesTask IsCut holds given arguments input old new status
