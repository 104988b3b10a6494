-- the rules of options, and a program without its tasks, as `clap` reads them
use Rattle.std.specs.Prelude.{◌-◌, ◌^◌, true, List, [], ◌∷◌, Some}
use Rattle.clap.specs.Walk.{Rule, Text}
use Rattle.clap.specs.Simple.{App, new_app, new_rule, on_top}
use Rattle.clap.specs.declared.builder.action.ArgAction.TheVariants.{SetTrue}
use Rattle.clap.specs.declared.builder.value_parser.ValueParser.{ValueParser}
use Rattle.clap.specs.declared.builder.value_parser.ValueParser.TheVariants as value_parser

-- an option that takes a value, and its defaults
abbrev pub option_rule : Text → ValueParser → List Text → Rule
option_rule name values defaults = record (new_rule name) { long = Some name; value_names = 1; parser = Some values; defaults = defaults }

-- a whole number below 2^64
abbrev pub is_word : ValueParser
is_word = value_parser.Unsigned 0 (2 ^ 64 - 1)

-- an option that takes a whole number below 2^64, and another that has a default
abbrev pub number_rule : Text → Rule
number_rule name = option_rule name is_word []

abbrev pub number_rule_or : Text → Text → Rule
number_rule_or name default = option_rule name is_word (default ∷ [])

-- an option that takes any text, and its defaults
abbrev pub text_rule : Text → List Text → Rule
text_rule name defaults = record (new_rule name) { long = Some name; value_names = 1; defaults = defaults }

-- an option that is there or not
abbrev pub switch_rule : Text → Rule
switch_rule name = record (new_rule name) { long = Some name; action = Some SetTrue }

-- a program of this name: it wants a task, has a version, and its name is not among its arguments
abbrev pub bare_app : Text → App
bare_app name = on_top (λ s. record s { no_binary_name = true; has_version = true; subcommand_required = true }) (new_app name)
