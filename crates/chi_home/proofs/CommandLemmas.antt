-- what the program's command line is to `clap`
use Rattle.std.proofs.Common.{ap, ap₂, inl, inr, ◌⊎◌, codes, ◌≡◌, ◌∙◌, Bool, true, false, cond, List, [], ◌∷◌, Option, Some, Bor, Result, Ok, Err, IfOk, refl, subst, sym, pos}
use Rattle.std.specs.Option.{option_map, unwrap_or}
use Rattle.clap.specs.Faults.{fault_of, is_simple_and_free}
use Rattle.clap.specs.Kinds.{IsAmong}
use Rattle.clap.specs.Matches.{subcommand_name_of}
use Rattle.clap.specs.Simple.{App, HasMatchesOf, app_of, built, entered, names_of, new_app, subcommand_of, subcommand_rows_of, with_rule, with_subcommand}
use Rattle.clap.specs.Walk.{Row, Rule, Text, Walk, nothing_held, texts, walk_from}
use Rattle.clap.specs.declared.builder.command.Command.{Command}
use Rattle.clap.specs.declared.error.kind.ErrorKind.{ErrorKind}
use Rattle.clap.specs.declared.error.kind.ErrorKind.TheVariants as error_kind
use Rattle.clap.specs.declared.builder.value_parser.ValueParser.TheVariants as value_parser
use Rattle.clap.specs.declared.parser.matches.ArgMatches.{ArgMatches}
use Rattle.clap.proofs.OnLiterals.{clap_on_literals}
use Rattle.clap.proofs.WalkLemmas.{walk_stopped}
use Rattle.chi_home.specs.OptionValues.{HasOptions, IsChosen, IsNamed, IsNamedFirst, IsRace, IsRun, IsScript, form_of, is_generate, task_named}
use Rattle.chi_program.specs.OptionValues.{BeginsWith, has_word}
use Rattle.chi_program.specs.Rules.{bare_app, option_rule}
use Rattle.chi_program.proofs.CommandLemmas.{subcommand_found}
use Rattle.chi_home.specs.declared.command.Job.{Job}
use Rattle.chi_home.specs.declared.command.Job.TheVariants.{Work, Script}
use Rattle.chi_home.specs.declared.command.Task.{Task}
use Rattle.chi_home.specs.declared.command.Task.TheVariants.{Run, Race, Trace}
use Rattle.chi_engine.specs.declared.options.Options.{Options}
use Rattle.chi_home.specs.CommandLine.{IsProgram, IsRaceApp, IsRunApp, IsTaken, IsTaskApp, IsArgumentsFault, trace_rule, generate_app, workers_rule}

-- the words of a task's options
pub record Words : Type 0 where
  pub stores : Bor (List (Bor Text))
  pub policies : Bor (List (Bor Text))
  pub formats : Bor (List (Bor Text))

-- they are the right ones
pub record AreRight (w : Words) : Type 0 where
  pub stores : texts w.stores.now ≡ codes "lock" ∷ codes "book" ∷ []
  pub policies : texts w.policies.now ≡ codes "resend" ∷ codes "return" ∷ []
  pub formats : texts w.formats.now ≡ codes "text" ∷ codes "json" ∷ []

abbrev stores_of : Words → Rule
stores_of w = option_rule (codes "store") (value_parser.Names w.stores) (codes "book" ∷ [])

abbrev policies_of : Words → Rule
policies_of w = option_rule (codes "policy") (value_parser.Names w.policies) (codes "resend" ∷ [])

abbrev formats_of : Words → Rule
formats_of w = option_rule (codes "format") (value_parser.Names w.formats) (codes "text" ∷ [])

-- a task whose options take these words
unfoldable pub task_of : Text → Words → App
task_of name w =
    with_rule (with_rule (with_rule (with_rule (new_app name) (stores_of w)) (option_rule (codes "attempts") (value_parser.Signed (pos 1) (pos 16)) (codes "4" ∷ [])))
    (policies_of w)) (formats_of w)

-- the three tasks
unfoldable pub with_tasks : App → App → App
with_tasks run race = with_subcommand (with_subcommand (with_subcommand (bare_app (codes "chihome")) run.top) race.top) generate_app.top

-- the program, whose options take these words
unfoldable pub program_of : Words → Words → App
program_of v w = with_tasks (with_rule (task_of (codes "run") v) trace_rule) (with_rule (task_of (codes "race") w) workers_rule)

-- a task that takes the right words is one of the program's
task_right : (name : Text) (w : Words) → AreRight w → IsTaskApp name (task_of name w)
unfolding task_of
task_right name w right = (stores_of w, policies_of w, formats_of w, (w.stores, right.stores, refl), (w.policies, right.policies, refl), (w.formats, right.formats, refl), refl)

-- so is a command that was made like the program
pub program_made : {E : Type 0} (made : Result Command E) (v w : Words) → AreRight v → AreRight w
    → IfOk made (λ command. app_of command ≡ program_of v w) → IfOk made (λ command. IsProgram (app_of command))
unfolding program_of with_tasks
program_made (Ok command) v w first second is = subst IsProgram (sym is) (
  with_rule (task_of (codes "run") v) trace_rule,
  with_rule (task_of (codes "race") w) workers_rule,
  (task_of (codes "run") v, task_right (codes "run") v first, refl),
  (task_of (codes "race") w, task_right (codes "race") w second, refl),
  refl,
)
program_made (Err error) v w first second is = tt

simple_whatever : (v w : Words) → is_simple_and_free (program_of v w) ≡ true
unfolding clap_on_literals program_of with_tasks task_of
simple_whatever v w = refl

-- the name of the subcommand that the arguments name
name_found : App → List Text → Option Text
name_found app arguments = option_map (λ p. p.0) (subcommand_of app arguments)

-- where the walk has met a subcommand it leaves the other arguments to it
raced_whatever : (v w : Words) (rest : List Text) → name_found (program_of v w) (codes "race" ∷ rest) ≡ Some (codes "race")
unfolding clap_on_literals name_found program_of with_tasks task_of
raced_whatever v w rest =
    let app = built (program_of v w) in
    ap (λ (end : Walk). option_map (λ p. p.0) (entered app end.stopped)) (sym (walk_stopped app.top.rules (names_of app) (walk_from nothing_held) (codes "race") [] rest))

run_whatever : (v w : Words) (rest : List Text) → name_found (program_of v w) (codes "run" ∷ rest) ≡ Some (codes "run")
unfolding clap_on_literals name_found program_of with_tasks task_of
run_whatever v w rest =
    let app = built (program_of v w) in
    ap (λ (end : Walk). option_map (λ p. p.0) (entered app end.stopped)) (sym (walk_stopped app.top.rules (names_of app) (walk_from nothing_held) (codes "run") [] rest))

generate_whatever : (v w : Words) (rest : List Text) → name_found (program_of v w) (codes "generate" ∷ rest) ≡ Some (codes "generate")
unfolding clap_on_literals name_found program_of with_tasks task_of
generate_whatever v w rest =
    let app = built (program_of v w) in
    ap (λ (end : Walk). option_map (λ p. p.0) (entered app end.stopped)) (sym (walk_stopped app.top.rules (names_of app) (walk_from nothing_held) (codes "generate") [] rest))

-- the words of a task of the program
words_in : (name : Text) (app : App) → IsTaskApp name app → Words
words_in name app t = record { stores = t.3.0; policies = t.4.0; formats = t.5.0 }

task_is : (name : Text) (app : App) → (t : IsTaskApp name app) → app ≡ task_of name (words_in name app t)
unfolding task_of words_in
task_is name app t = rw (t.3.2, t.4.2, t.5.2) at t.6

run_is : (app : App) → (t : IsRunApp app) → app ≡ with_rule (task_of (codes "run") (words_in (codes "run") t.0 t.1)) trace_rule
run_is app t = t.2 ∙ ap (λ (task : App). with_rule task trace_rule) (task_is (codes "run") t.0 t.1)

race_is : (app : App) → (t : IsRaceApp app) → app ≡ with_rule (task_of (codes "race") (words_in (codes "race") t.0 t.1)) workers_rule
race_is app t = t.2 ∙ ap (λ (task : App). with_rule task workers_rule) (task_is (codes "race") t.0 t.1)

-- the program, by the words of its two tasks that have such options
run_words : (app : App) → IsProgram app → Words
run_words app p = words_in (codes "run") p.2.0 p.2.1

race_words : (app : App) → IsProgram app → Words
race_words app p = words_in (codes "race") p.3.0 p.3.1

program_is : (app : App) → (p : IsProgram app) → app ≡ program_of (run_words app p) (race_words app p)
unfolding program_of with_tasks run_words race_words
program_is app p = p.4 ∙ ap₂ with_tasks (run_is p.0 p.2) (race_is p.1 p.3)

-- `clap` says what it answers to any arguments
pub program_is_simple : (app : App) → IsProgram app → is_simple_and_free app ≡ true
program_is_simple app p = ap is_simple_and_free (program_is app p) ∙ simple_whatever (run_words app p) (race_words app p)

-- each name is that of its own task alone
race_named : (name : Text) (found : List Row) (job : Job) → IsNamed name job → HasOptions found name job → name ≡ codes "race" → IsRace job
race_named name found (Work task options) named has is = by_task task options (has.0 ∙ ap (λ n. task_named n found) is)
  where
    by_task : (task : Task) (options : Options) → task ≡ Race (form_of found) → IsRace (Work task options)
    by_task (Run form) options is = cc
    by_task (Race form) options is = tt
    by_task Trace options is = cc
race_named name found (Script options) named has is = cc (sym named ∙ ap is_generate is)

-- a run has its transcript or its trace
run_named : (name : Text) (found : List Row) (job : Job) → IsNamed name job → HasOptions found name job → name ≡ codes "run" → IsRun job
run_named name found (Work task options) named has is = by_task task options (has_word found (codes "trace") (codes "true")) (has.0 ∙ ap (λ n. task_named n found) is)
  where
    by_task : (task : Task) (options : Options) (traced : Bool) → task ≡ cond traced Trace (Run (form_of found)) → IsRun (Work task options)
    by_task (Run form) options traced is = tt
    by_task (Race form) options true is = cc
    by_task (Race form) options false is = cc
    by_task Trace options traced is = tt
run_named name found (Script options) named has is = cc (sym named ∙ ap is_generate is)

script_named : (name word : Text) (job : Job) → is_generate word ≡ true → IsNamed name job → name ≡ word → IsScript job
script_named name word (Work task options) generate named is = cc (sym named ∙ (ap is_generate is ∙ generate))
script_named name word (Script options) generate named is = tt

-- a subcommand that is the first argument is the one that is found
module _ (app : App) (arguments : List Text) (name : Text) (found : List Row) (job : Job) (p : IsProgram app)
    (is : subcommand_of app arguments ≡ Some (name, found)) (named : IsNamed name job) (has : HasOptions found name job) where
  begins_with : (word : Text) → (begins : BeginsWith arguments word)
      → name_found (program_of (run_words app p) (race_words app p)) (word ∷ begins.0) ≡ Some word → name ≡ word
  unfolding name_found
  begins_with word begins first =
      ap (λ n. unwrap_or n name) (ap (option_map (λ p. p.0)) (sym is) ∙ (ap₂ name_found (program_is app p) begins.1 ∙ first))

  pub named_first : IsNamedFirst arguments job
  named_first = (
    λ race. race_named name found job named has (begins_with (codes "race") race (raced_whatever (run_words app p) (race_words app p) race.0)),
    λ run. run_named name found job named has (begins_with (codes "run") run (run_whatever (run_words app p) (race_words app p) run.0)),
    λ generate. script_named name (codes "generate") job refl named (begins_with (codes "generate") generate (generate_whatever (run_words app p) (race_words app p) generate.0)),
  )

-- what is asked for, with its options, is what `clap` finds, and a first argument that is a task's name asks for that
pub asked_found : (app : App) (arguments : List Text) (matches : ArgMatches) (name : Text) (found : List Row) (job : Job) → IsProgram app
    → HasMatchesOf app arguments matches → Some name ≡ subcommand_name_of matches → Some found ≡ option_map (λ p. p.1) (subcommand_rows_of matches)
    → IsNamed name job → HasOptions found name job → IsChosen arguments job × IsNamedFirst arguments job
asked_found app arguments matches name found job program has is_named rows named options =
    let is = subcommand_found app arguments matches name found (program_is_simple app program) has is_named rows in
    ((name, found, (app, program, is), named, options), named_first app arguments name found job program is named options)

-- what `clap` refuses, and what it takes
pub arguments_fault : (app : App) (arguments : List Text) (kind : ErrorKind) → IsProgram app
    → (is_simple_and_free app ≡ true → (kind ≡ error_kind.OutOfMemory) ⊎ IsAmong kind (fault_of app arguments)) → IsArgumentsFault arguments kind
arguments_fault app arguments kind program fails = elim (fails (program_is_simple app program)) [
  | inl memory ↦ inl memory
  | inr among ↦ inr (app, program, among)
]

pub arguments_taken : (app : App) (arguments : List Text) → IsProgram app → (is_simple_and_free app ≡ true → fault_of app arguments ≡ []) → IsTaken arguments
arguments_taken app arguments program none = (app, program, none (program_is_simple app program))
