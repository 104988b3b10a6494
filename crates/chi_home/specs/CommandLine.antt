-- the command line of the program, as `clap` reads it
use Rattle.std.specs.Prelude.{◌≡◌, pos, List, [], ◌∷◌, ◌⊎◌, codes}
use Rattle.std.specs.Borrow.{Bor}
use Rattle.clap.specs.Walk.{Rule, Text, texts}
use Rattle.clap.specs.Simple.{App, new_app, with_rule, with_subcommand}
use Rattle.clap.specs.Kinds.{IsAmong}
use Rattle.clap.specs.Faults.{fault_of}
use Rattle.clap.specs.declared.error.kind.ErrorKind.{ErrorKind}
use Rattle.clap.specs.declared.error.kind.ErrorKind.TheVariants as error_kind
use Rattle.clap.specs.declared.builder.value_parser.ValueParser.TheVariants as value_parser
use Rattle.chi_program.specs.Rules.{bare_app, number_rule_or, option_rule, switch_rule, text_rule}

-- an option that takes one of these words
abbrev pub IsChoice : Text → List Text → Text → Rule → Type 0
IsChoice name words default rule =
    (values : Bor (List (Bor Text))) × (texts values.now ≡ words) × (rule ≡ option_rule name (value_parser.Names values) (default ∷ []))

-- a task of this name: its store is a lock or a book, its attempts are 1 to 16, its policy is to resend or to return, and its format is text
-- or JSON
abbrev pub IsTaskApp : Text → App → Type 0
IsTaskApp name app =
    (store : Rule) × (policy : Rule) × (format : Rule)
    × IsChoice (codes "store") (codes "lock" ∷ codes "book" ∷ []) (codes "book") store
    × IsChoice (codes "policy") (codes "resend" ∷ codes "return" ∷ []) (codes "resend") policy
    × IsChoice (codes "format") (codes "text" ∷ codes "json" ∷ []) (codes "text") format
    × (app ≡ with_rule (with_rule (with_rule (with_rule (new_app name) store)
    (option_rule (codes "attempts") (value_parser.Signed (pos 1) (pos 16)) (codes "4" ∷ []))) policy) format)

-- a race may be told its workers, 1 to 7
abbrev pub workers_rule : Rule
workers_rule = option_rule (codes "workers") (value_parser.Signed (pos 1) (pos 7)) (codes "2" ∷ [])

-- the task of a race: it has these, too
abbrev pub IsRaceApp : App → Type 0
IsRaceApp app = (task : App) × IsTaskApp (codes "race") task × (app ≡ with_rule task workers_rule)

-- a run may be asked for its trace
abbrev pub trace_rule : Rule
trace_rule = switch_rule (codes "trace")

-- the task of a run: it has that switch, too
abbrev pub IsRunApp : App → Type 0
IsRunApp app = (task : App) × IsTaskApp (codes "run") task × (app ≡ with_rule task trace_rule)

-- an image may be asked for
abbrev pub image_rule : Rule
image_rule = switch_rule (codes "image")

-- the weights where none are given
abbrev pub default_mix : Text
default_mix = codes "read=1,write=1,store=2,load=3,swap=1,compare=1"

-- the weights are any text
abbrev pub mix_rule : Rule
mix_rule = text_rule (codes "mix") (default_mix ∷ [])

-- the task `generate`: its numbers, its image and its mix
abbrev pub generate_app : App
generate_app =
    with_rule (with_rule (with_rule (with_rule (with_rule (with_rule (with_rule (with_rule (with_rule (new_app (codes "generate"))
    (number_rule_or (codes "requests") (codes "1000"))) (number_rule_or (codes "seed") (codes "1"))) (number_rule_or (codes "base") (codes "4096")))
    (number_rule_or (codes "granules") (codes "8"))) image_rule) (number_rule_or (codes "requesters") (codes "4")))
    (number_rule_or (codes "refused") (codes "0"))) (number_rule_or (codes "hot") (codes "0"))) mix_rule

-- the program, with its tasks `run`, `race` and `generate`
abbrev pub IsProgram : App → Type 0
IsProgram app =
    (run : App) × (race : App) × IsRunApp run × IsRaceApp race
    × (app ≡ with_subcommand (with_subcommand (with_subcommand (bare_app (codes "chihome")) run.top) race.top) generate_app.top)

-- why the arguments name no task: there is no memory, or `clap` finds this fault in them or is asked for help
abbrev pub IsArgumentsFault : List Text → ErrorKind → Type 0
IsArgumentsFault arguments kind =
    (kind ≡ error_kind.OutOfMemory) ⊎ ((app : App) × IsProgram app × IsAmong kind (fault_of app arguments))

-- the arguments name a task: `clap` finds no fault in them
abbrev pub IsTaken : List Text → Type 0
IsTaken arguments = (app : App) × IsProgram app × (fault_of app arguments ≡ [])
