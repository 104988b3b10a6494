-- what came of the task that the arguments name
use Rattle.std.proofs.Common.{ℕ, List, Option, Result, Ok, Err, ◌⊎◌, inl, inr}
use Rattle.chi_history.specs.declared.opening.OpenFault.TheVariants as open_fault
use Rattle.chi_engine.specs.declared.fault.EngineFault.{EngineFault}
use Rattle.chi_engine.specs.declared.fault.EngineFault.TheVariants.{Read, TooLong, Memory, Script, Open, Work, Write}
use Rattle.chi_engine.specs.declared.options.Store.{Store}
use Rattle.chi_engine.specs.Engine.{ReportsOpening}
use Rattle.chi_engine.specs.Store.{Opens}
use Rattle.clap.specs.Walk.{Text}
use Rattle.chi_home.specs.OptionValues.{HasAttempts, IsChosen}
use Rattle.chi_home.specs.CommandLine.{IsTaken}
use Rattle.chi_home.specs.Task.{DoesTask, EndsAsked, IsUnrefused, MakesScript}
use Rattle.chi_home.specs.declared.command.Job.{Job}
use Rattle.chi_home.specs.declared.command.Job.TheVariants.{Work, Script}

-- a store that opens with its tries is refused neither for its requesters nor for its tries
pub unrefused : (store : Store) (result : Result (Unit {0}) EngineFault) → Opens store → ReportsOpening store result → IsUnrefused result
unrefused store (Ok done) opens reports = tt
unrefused store (Err Read) opens reports = tt
unrefused store (Err TooLong) opens reports = tt
unrefused store (Err Memory) opens reports = tt
unrefused store (Err (Script fault)) opens reports = tt
unrefused store (Err (Open open_fault.RequesterCount)) opens reports = reports
unrefused store (Err (Open open_fault.AttemptCount)) opens reports = reports opens
unrefused store (Err (Open open_fault.Memory)) opens reports = tt
unrefused store (Err (Open open_fault.NotOneLine)) opens reports = tt
unrefused store (Err (Work fault)) opens reports = tt
unrefused store (Err (Write fault)) opens reports = tt

-- what came of the arguments is what came of what they ask for
pub came_of : (arguments : List Text) (job : Job) (input old new : Option (List ℕ)) (status : ℕ) → IsTaken arguments → IsChosen arguments job
    → HasAttempts job → EndsAsked job input old new status → DoesTask arguments input old new status ⊎ MakesScript arguments old new status
came_of arguments (Work task options) input old new status taken chosen count ends =
    inl (taken, task, options, chosen, ends.0, count, unrefused options.store ends.0 count ends.1, ends.2, ends.3, ends.4)
came_of arguments (Script options) input old new status taken chosen count ends = inr (taken, options, chosen, ends)
