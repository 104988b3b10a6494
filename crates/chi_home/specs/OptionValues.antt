-- which task and which options the arguments name
use Rattle.std.specs.Prelude.{◌≡◌, ℕ, ◌&&◌, Bool, true, false, nat_le, if◌then◌else◌, List, Some, codes}
use Rattle.std.specs.Option.{option_map_or, unwrap_or}
use Rattle.std.specs.Str.{bytes_eq}
use Rattle.clap.specs.Walk.{Row, Text, byte_or_zero, one_of}
use Rattle.clap.specs.Simple.{App, subcommand_of}
use Rattle.chi_requester.specs.declared.policy.Policy.{Policy}
use Rattle.chi_requester.specs.declared.policy.Policy.TheVariants.{Resend, Return}
use Rattle.chi_engine.specs.declared.options.Options.{Options}
use Rattle.chi_engine.specs.declared.options.Store.{Store}
use Rattle.chi_engine.specs.declared.options.Store.TheVariants.{Lock, Book}
use Rattle.chi_engine.specs.Store.{Opens}
use Rattle.chi_engine.specs.WorkerCount.{workers_of_count}
use Rattle.chi_home.specs.Generating.{HasGenerateOptions}
use Rattle.chi_home.specs.declared.command.Form.{Form}
use Rattle.chi_home.specs.declared.command.Form.TheVariants.{Text as AsText, Json}
use Rattle.chi_home.specs.declared.command.Job.{Job}
use Rattle.chi_home.specs.declared.command.Job.TheVariants.{Work, Script}
use Rattle.chi_home.specs.declared.command.Task.{Task}
use Rattle.chi_home.specs.declared.command.Task.TheVariants.{Run, Race, Trace}
use Rattle.chi_home.specs.CommandLine.{IsProgram}
use Rattle.chi_program.specs.OptionValues.{BeginsWith, has_word}

-- `--format json`, or any other word
abbrev pub form_of : List Row → Form
form_of found = if has_word found (codes "format") (codes "json") then Json else AsText

-- the task of a subcommand's name and of what was found: a run with `--trace` writes what was executed as a trace
abbrev pub task_named : Text → List Row → Task
task_named name found =
    if bytes_eq name (codes "race") then Race (form_of found) else if has_word found (codes "trace") (codes "true") then Trace else Run (form_of found)

-- `--policy return`, or any other word
abbrev pub policy_of : List Row → Policy
policy_of found = if has_word found (codes "policy") (codes "return") then Return else Resend

-- the number if it is 1 to 16
abbrev pub tries_or_four : ℕ → ℕ
tries_or_four n = if nat_le 1 n && nat_le n 16 then n else 4

-- the number after `--attempts`
abbrev pub attempts_of : List Row → ℕ
attempts_of found = tries_or_four (option_map_or byte_or_zero (one_of (codes "attempts") found) 0)

-- `--store lock`, or any other word, with the tries
abbrev pub store_of : List Row → Store
store_of found = if has_word found (codes "store") (codes "lock") then Lock else Book (attempts_of found)

-- the number if it is 1 to 7
abbrev pub workers_or_two : ℕ → ℕ
workers_or_two n = unwrap_or (workers_of_count n) 2

-- the number after `--workers`
abbrev pub workers_of : List Row → ℕ
workers_of found = workers_or_two (option_map_or byte_or_zero (one_of (codes "workers") found) 0)

-- only a race is told its workers
abbrev pub workers_for : Task → List Row → ℕ
workers_for (Run form) found = 2
workers_for (Race form) found = workers_of found
workers_for Trace found = 2

-- the options of a task, as they were found
abbrev pub options_of_task : Task → List Row → Options
options_of_task task found =
    record { store = store_of found; policy = policy_of found; workers = workers_for task found }

-- in these arguments `clap` finds the subcommand of this name, and this of its options, by use or by default
abbrev pub Finds : List Text → Text → List Row → Type 0
Finds arguments name found = (app : App) × IsProgram app × (subcommand_of app arguments ≡ Some (name, found))

-- the name is that of the task that makes a script
abbrev pub is_generate : Text → Bool
is_generate name = bytes_eq name (codes "generate")

-- the name `generate` asks for a script, and any other for work
abbrev pub IsNamed : Text → Job → Type 0
IsNamed name (Work task options) = is_generate name ≡ false
IsNamed name (Script options) = is_generate name ≡ true

-- what is asked for has the options that were found
abbrev pub HasOptions : List Row → Text → Job → Type 0
HasOptions found name (Work task options) = (task ≡ task_named name found) × (options ≡ options_of_task task found)
HasOptions found name (Script options) = HasGenerateOptions found options

-- the arguments ask for this, with these options: those of what `clap` finds in them
abbrev pub IsChosen : List Text → Job → Type 0
IsChosen arguments job = (name : Text) × (found : List Row) × Finds arguments name found × IsNamed name job × HasOptions found name job

-- the store of the work opens with its tries: with 1 to 16, where it counts them
abbrev pub HasAttempts : Job → Type 0
HasAttempts (Work task options) = Opens options.store
HasAttempts (Script options) = Unit {0}

-- it is a race that is asked for
abbrev pub IsRace : Job → Type 0
IsRace (Work (Run form) options) = ⊥
IsRace (Work (Race form) options) = Unit {0}
IsRace (Work Trace options) = ⊥
IsRace (Script options) = ⊥

-- it is a run that is asked for, with its transcript or with its trace
abbrev pub IsRun : Job → Type 0
IsRun (Work (Run form) options) = Unit {0}
IsRun (Work (Race form) options) = ⊥
IsRun (Work Trace options) = Unit {0}
IsRun (Script options) = ⊥

-- it is a script that is asked for
abbrev pub IsScript : Job → Type 0
IsScript (Work task options) = ⊥
IsScript (Script options) = Unit {0}

-- a first argument that is a task's name names the task
abbrev pub IsNamedFirst : List Text → Job → Type 0
IsNamedFirst arguments job =
    (BeginsWith arguments (codes "race") → IsRace job) × (BeginsWith arguments (codes "run") → IsRun job)
    × (BeginsWith arguments (codes "generate") → IsScript job)
