-- what the program does with a script, by its task
use Rattle.std.specs.Prelude.{◌≡◌, ℕ, ◌⊎◌, List, Option, Result, Ok, Err, IfSome}
use Rattle.clap.specs.Walk as walk
use Rattle.chi_history.specs.declared.opening.OpenFault.TheVariants as open_fault
use Rattle.chi_home.specs.Generating.{WritesScript, generate_status}
use Rattle.chi_home.specs.declared.generation.GenerateFault.{GenerateFault}
use Rattle.chi_home.specs.declared.generation.GenerateOptions.{GenerateOptions}
use Rattle.chi_home.specs.declared.command.Form.TheVariants.{Text, Json}
use Rattle.chi_home.specs.declared.command.Job.{Job}
use Rattle.chi_home.specs.declared.command.Job.TheVariants.{Work, Script}
use Rattle.chi_home.specs.declared.command.Task.{Task}
use Rattle.chi_home.specs.declared.command.Task.TheVariants.{Run, Race, Trace}
use Rattle.chi_engine.specs.declared.fault.EngineFault.{EngineFault}
use Rattle.chi_engine.specs.declared.fault.EngineFault.TheVariants.{Open}
use Rattle.chi_engine.specs.declared.options.Options.{Options}
use Rattle.chi_home.specs.OptionValues.{IsChosen}
use Rattle.chi_home.specs.CommandLine.{IsTaken, IsArgumentsFault}
use Rattle.chi_engine.specs.Trace.{TraceOutcome}
use Rattle.chi_engine.specs.Engine.{KeepsUnexecuted, ReportsOpening}
use Rattle.chi_engine.specs.Store.{Opens}
use Rattle.chi_engine.specs.RaceTranscript.{RaceOutcome}
use Rattle.chi_engine.specs.TranscriptJson.{RaceJsonOutcome, RunJsonOutcome}
use Rattle.chi_engine.specs.Run.{Outcome}
use Rattle.chi_engine.specs.FaultStatus.{status_of}
use Rattle.chi_program.specs.Answered.{ReportsArguments}

abbrev pub TaskOutcome : Task → Options → List ℕ → Option (List ℕ) → Option (List ℕ) → Result (Unit {0}) EngineFault → Type 0
TaskOutcome (Run Text) options input old new result = Outcome options input old new result
TaskOutcome (Run Json) options input old new result = RunJsonOutcome options input old new result
TaskOutcome (Race Text) options input old new result = RaceOutcome options input old new result
TaskOutcome (Race Json) options input old new result = RaceJsonOutcome options input old new result
TaskOutcome Trace options input old new result = TraceOutcome options input old new result

-- 0 where it is done, else the status of its fault
abbrev pub end_status : Result (Unit {0}) EngineFault → ℕ
end_status (Ok done) = 0
end_status (Err fault) = status_of fault

-- The task came to an outcome of this status: what it reports of the store, what it wrote, and what it made of the
-- input where the reader's bytes are known.
abbrev pub Ends : Task → Options → Option (List ℕ) → Option (List ℕ) → Option (List ℕ) → ℕ → Type 0
Ends task options input old new status =
    (result : Result (Unit {0}) EngineFault) × ReportsOpening options.store result × KeepsUnexecuted old new result
    × IfSome input (λ bytes. TaskOutcome task options bytes old new result) × (status ≡ end_status result)

-- the opening of a store was refused neither for its requesters nor for its tries
abbrev pub IsUnrefused : Result (Unit {0}) EngineFault → Type 0
IsUnrefused (Err (Open open_fault.RequesterCount)) = ⊥
IsUnrefused (Err (Open open_fault.AttemptCount)) = ⊥
IsUnrefused result = Unit {0}

-- The arguments name this task with these options, whose store opens with its tries: `clap` finds no fault in them. The task came to an
-- outcome of this status, which is never that the store was refused for its requesters or for its tries.
abbrev pub DoesTask : List walk.Text → Option (List ℕ) → Option (List ℕ) → Option (List ℕ) → ℕ → Type 0
DoesTask arguments input old new status =
    IsTaken arguments × (task : Task) × (options : Options) × IsChosen arguments (Work task options)
    × (result : Result (Unit {0}) EngineFault)
    × Opens options.store × IsUnrefused result × KeepsUnexecuted old new result
    × IfSome input (λ bytes. TaskOutcome task options bytes old new result) × (status ≡ end_status result)

-- 0 where a script was made, else the status of the fault
abbrev pub made_status : Result (Unit {0}) GenerateFault → ℕ
made_status (Ok done) = 0
made_status (Err fault) = generate_status fault

-- What came of making a script: one that the options ask for was written, a beginning of one, or nothing.
abbrev pub Makes : GenerateOptions → Option (List ℕ) → Option (List ℕ) → ℕ → Type 0
Makes options old new status =
    (result : Result (Unit {0}) GenerateFault) × WritesScript options old new result × (status ≡ made_status result)

-- what came of what was asked for
abbrev pub EndsAsked : Job → Option (List ℕ) → Option (List ℕ) → Option (List ℕ) → ℕ → Type 0
EndsAsked (Work task options) input old new status = Ends task options input old new status
EndsAsked (Script options) input old new status = Makes options old new status

-- The arguments ask for a script with these options: `clap` finds no fault in them.
abbrev pub MakesScript : List walk.Text → Option (List ℕ) → Option (List ℕ) → ℕ → Type 0
MakesScript arguments old new status =
    IsTaken arguments × (options : GenerateOptions) × IsChosen arguments (Script options) × Makes options old new status

-- what the program does with its arguments
abbrev pub ProgramOutcome : List walk.Text → Option (List ℕ) → Option (List ℕ) → Option (List ℕ) → ℕ → Type 0
ProgramOutcome arguments input old new status =
    ReportsArguments (IsArgumentsFault arguments) old new status ⊎ (DoesTask arguments input old new status ⊎ MakesScript arguments old new status)
