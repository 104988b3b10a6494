-- which task the arguments name, and with which options
use Rattle.std.specs.Prelude.{◌≡◌, ◌⊎◌, ℕ, nat_eq, drop, Result, Bool, true, false, not, ◌&&◌, ◌||◌, if◌then◌else◌, [], List, unwrap_or, Option, None, Some, codes}
use Rattle.std.specs.List.{starts_with}
use Rattle.std.specs.Option.{option_map, option_map_or}
use Rattle.std.specs.Result.{result_ok}
use Rattle.std.specs.Str.{bytes_eq}
use Rattle.std.specs.Str.Parse.{ParsesUnsigned}
use Rattle.std.specs.Borrow.{Bor}
use Rattle.clap.specs.Walk.{Row, Text, all_of, first_of, one_of}
use Rattle.clap.specs.Simple.{subcommand_of}
use Rattle.clap.specs.Kinds.{IsAmong}
use Rattle.clap.specs.Faults.{fault_of}
use Rattle.clap.specs.declared.error.kind.ErrorKind.{ErrorKind}
use Rattle.clap.specs.declared.error.kind.ErrorKind.TheVariants as error_kind
use Rattle.chi_check.specs.declared.command.Task.{Task}
use Rattle.chi_check.specs.declared.command.Task.TheVariants.{Explain, Watch, Cover}
use Rattle.chi_watch_text.specs.declared.line_format.ErrorEffect.{ErrorEffect}
use Rattle.chi_watch_text.specs.declared.line_format.ErrorEffect.TheVariants as effect
use Rattle.chi_watch_text.specs.declared.line_format.LineFormat.{LineFormat}
use Rattle.chi_watch_text.specs.declared.line_format.LineFormat.TheVariants.{Events, Flits, PointedFlits}
use Rattle.chi_watch_text.specs.declared.required.Required.{Required}
use Rattle.chi_check.specs.CommandLine.{program_app}
use Rattle.chi_check.specs.Cover.{paths_of}
use Rattle.chi_answer.specs.declared.format.AnswerFormat.{AnswerFormat}
use Rattle.chi_answer.specs.declared.format.AnswerFormat.TheVariants as answer
use Rattle.chi_check.specs.declared.options.CheckOptions.{CheckOptions}
use Rattle.chi_check.specs.declared.options.CoverOptions.{CoverOptions}
use Rattle.chi_check.specs.declared.options.WatchingOptions.{WatchingOptions}
use Rattle.chi_program.specs.OptionValues.{BeginsWith, IsNumberOr, IsNumberOrNone, has_word}

-- in these arguments `clap` finds the subcommand of this name, and this of its options, by use or by default
abbrev pub Finds : List Text → Text → List Row → Type 0
Finds arguments name found = subcommand_of program_app arguments ≡ Some (name, found)

-- what is of flits alone was asked for, and no flits: points, or that errors have no effect
abbrev pub lacks_flits : List Row → Bool
lacks_flits found =
    (has_word found (codes "points") (codes "true") || has_word found (codes "errors") (codes "none")) && not (has_word found (codes "flits") (codes "true"))

-- what an error says of its request is neither of the two words
abbrev pub has_other_effect : List Row → Bool
has_other_effect found = not (has_word found (codes "errors") (codes "none")) && not (has_word found (codes "errors") (codes "unknown"))

-- the form of an answer is neither of the two words
abbrev pub has_other_format : List Row → Bool
has_other_format found = option_map_or (λ word. not (bytes_eq word (codes "text")) && not (bytes_eq word (codes "json"))) (first_of (codes "format") found) false

-- an address is written in hexadecimal digits after `0x`, and else in decimal ones
abbrev pub radix_of : Text → ℕ
radix_of text = if starts_with nat_eq text (codes "0x") then 16 else 10

abbrev pub digits_of : Text → Text
digits_of text = if starts_with nat_eq text (codes "0x") then drop 2 text else text

-- the address that a text is, where it is a number below 2^64
abbrev pub IsAddress : Text → Option ℕ → Type 0
IsAddress text address = (read : Result ℕ (Unit {0})) × ParsesUnsigned 64 (radix_of text) (digits_of text) read × (address ≡ result_ok read)

-- the address of the granule that is asked for, where one is
abbrev pub IsAddressOrNone : Option Text → Option ℕ → Type 0
IsAddressOrNone None address = address ≡ None
IsAddressOrNone (Some text) address = IsAddress text address

-- the granule that is asked for is no address
abbrev pub HasNoAddress : List Row → Type 0
HasNoAddress found = (text : Text) × (first_of (codes "granule") found ≡ Some text) × IsAddress text None

-- the options are none of those that `clap` takes and the program refuses
pub record ArePassed (found : List Row) : Type 0 where
  pub flits : lacks_flits found ≡ false
  pub effect : has_other_effect found ≡ false
  pub format : has_other_format found ≡ false
  pub granule : HasNoAddress found → ⊥

-- in these arguments `clap` finds options for which this holds
abbrev pub FindsWhere : List Text → (List Row → Bool) → Type 0
FindsWhere arguments holds = (name : Text) × (found : List Row) × Finds arguments name found × (holds found ≡ true)

-- why the arguments name no task: there is no memory; `clap` finds this fault in them, or is asked for help; they ask for what is of
-- flits alone, and for no flits; or what errors say, or the form of an answer, is another word, or the granule is no address
abbrev pub IsArgumentsFault : List Text → ErrorKind → Type 0
IsArgumentsFault arguments kind =
    ((kind ≡ error_kind.OutOfMemory) ⊎ IsAmong kind (fault_of program_app arguments))
    ⊎ (((kind ≡ error_kind.MissingRequiredArgument) × FindsWhere arguments lacks_flits) ⊎ (((kind ≡ error_kind.InvalidValue) × FindsWhere arguments has_other_effect) ⊎ (((kind ≡ error_kind.InvalidValue) × FindsWhere arguments has_other_format)
    ⊎ ((kind ≡ error_kind.InvalidValue) × (name : Text) × (found : List Row) × Finds arguments name found × HasNoAddress found))))

-- the name `watch` is that of the watch, `cover` that of the count, and any other that of the explaining
abbrev pub IsNamed : Text → Task → Type 0
IsNamed name (Explain options file) = (bytes_eq name (codes "watch") ≡ false) × (bytes_eq name (codes "cover") ≡ false)
IsNamed name (Watch options file) = bytes_eq name (codes "watch") ≡ true
IsNamed name (Cover options) = bytes_eq name (codes "cover") ≡ true

-- what an error says of its request: that it took no effect, where that was asked for
abbrev pub errors_asked : List Row → ErrorEffect
errors_asked found = if has_word found (codes "errors") (codes "none") then effect.None else effect.Unknown

-- the form of an answer: JSON, where that was asked for
abbrev pub answer_format : List Row → AnswerFormat
answer_format found = if has_word found (codes "format") (codes "json") then answer.Json else answer.Text

-- what each line among flits tells: points too, where that was asked for
abbrev pub flits_asked : List Row → LineFormat
flits_asked found = if has_word found (codes "points") (codes "true") then PointedFlits (errors_asked found) else Flits (errors_asked found)

-- what each line of an input tells: flits or events, where that was asked for, and else it is a trace
abbrev pub lines_asked : List Row → Option LineFormat
lines_asked found =
    if has_word found (codes "flits") (codes "true") then Some (flits_asked found)
    else if has_word found (codes "events") (codes "true") then Some Events
    else None

-- of a watch: flits where that was asked for, and else events
abbrev pub format_asked : List Row → LineFormat
format_asked found = if has_word found (codes "flits") (codes "true") then flits_asked found else Events

-- the options of `explain` are those that were found
pub record HasExplainOptions (found : List Row) (options : CheckOptions) : Type 0 where
  pub lines : options.lines ≡ lines_asked found
  pub witness : options.witness ≡ has_word found (codes "witness") (codes "true")
  pub format : options.format ≡ answer_format found
  pub budget : IsNumberOr 1000000 (one_of (codes "budget") found) options.budget
  pub seconds : IsNumberOrNone (one_of (codes "seconds") found) options.seconds
  pub memory : IsNumberOrNone (one_of (codes "memory") found) options.memory
  pub granule : IsAddressOrNone (first_of (codes "granule") found) options.granule
  pub until : IsNumberOrNone (one_of (codes "until") found) options.until
  pub around : IsNumberOr 16 (one_of (codes "around") found) options.around
  pub html : option_map (λ s. s.now) options.html ≡ first_of (codes "html") found

-- and so is what `watch` requires
pub record HasRequired (found : List Row) (required : Required) : Type 0 where
  pub end : required.end ≡ has_word found (codes "require-end") (codes "true")
  pub operations : IsNumberOr 0 (one_of (codes "require-operations") found) required.operations
  pub quiet : required.quiet ≡ has_word found (codes "require-quiet") (codes "true")
  pub judged : required.judged ≡ has_word found (codes "require-judged") (codes "true")

-- and its other options
pub record HasWatchOptions (found : List Row) (options : WatchingOptions) : Type 0 where
  pub format : options.format ≡ format_asked found
  pub answer : options.answer ≡ answer_format found
  pub keep_going : options.keep_going ≡ has_word found (codes "keep-going") (codes "true")
  pub budget : IsNumberOr 1000000 (one_of (codes "budget") found) options.budget
  pub around : IsNumberOr 16 (one_of (codes "around") found) options.around
  pub required : HasRequired found options.required
  pub save : option_map (λ s. s.now) options.save ≡ first_of (codes "save") found
  pub html : option_map (λ s. s.now) options.html ≡ first_of (codes "html") found

-- and those of `cover`
pub record HasCoverOptions (found : List Row) (options : CoverOptions) : Type 0 where
  pub goal : IsNumberOr 1 (one_of (codes "goal") found) options.goal
  pub plan : option_map (λ s. s.now) options.plan ≡ first_of (codes "plan") found
  pub require : IsNumberOr 0 (one_of (codes "require") found) options.require
  pub lines : options.lines ≡ lines_asked found
  pub format : options.format ≡ answer_format found
  pub html : option_map (λ s. s.now) options.html ≡ first_of (codes "html") found
  pub files : paths_of options ≡ unwrap_or (all_of (codes "file") found) []

-- the file that is read is the one that was found
abbrev pub IsFile : List Row → Option (Bor Text) → Type 0
IsFile found file = option_map (λ s. s.now) file ≡ first_of (codes "file") found

-- the task has the options that were found
abbrev pub HasOptions : List Row → Task → Type 0
HasOptions found (Explain options file) = HasExplainOptions found options × IsFile found file
HasOptions found (Watch options file) = HasWatchOptions found options × IsFile found file
HasOptions found (Cover options) = HasCoverOptions found options

-- the arguments name this task with these options: those of what `clap` finds in them, none of which is refused
abbrev pub Chooses : List Text → Task → Type 0
Chooses arguments task = (name : Text) × (found : List Row) × Finds arguments name found × ArePassed found × IsNamed name task × HasOptions found task

-- the task is `explain`, whatever its options
abbrev pub IsExplain : Task → Type 0
IsExplain (Explain options file) = Unit {0}
IsExplain (Watch options file) = ⊥
IsExplain (Cover options) = ⊥

-- the task is `watch`, whatever its options
abbrev pub IsWatch : Task → Type 0
IsWatch (Explain options file) = ⊥
IsWatch (Watch options file) = Unit {0}
IsWatch (Cover options) = ⊥

-- the task is `cover`, whatever its options
abbrev pub IsCover : Task → Type 0
IsCover (Explain options file) = ⊥
IsCover (Watch options file) = ⊥
IsCover (Cover options) = Unit {0}

-- a first argument that is a task's name names the task
abbrev pub IsNamedFirst : List Text → Task → Type 0
IsNamedFirst arguments task =
    (BeginsWith arguments (codes "explain") → IsExplain task) × (BeginsWith arguments (codes "watch") → IsWatch task) × (BeginsWith arguments (codes "cover") → IsCover task)
