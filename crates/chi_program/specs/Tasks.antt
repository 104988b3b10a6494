-- the tasks of a program and their options, as `clap` reads them
use Rattle.std.specs.Prelude.{List, [], ◌∷◌, Some, fold}
use Rattle.clap.specs.Walk.{Rule, Text}
use Rattle.clap.specs.Simple.{App, new_app, new_rule, with_rule, with_subcommand}
use Rattle.clap.specs.declared.builder.action.ArgAction.TheVariants.{Append}
use Rattle.chi_program.specs.Rules.{bare_app, number_rule, number_rule_or, option_rule, switch_rule, text_rule}
use Rattle.chi_program.specs.declared.task.NamedOption.{NamedOption}
use Rattle.chi_program.specs.declared.task.NamedTask.{NamedTask}
use Rattle.chi_program.specs.declared.task.Takes.{Takes}
use Rattle.chi_program.specs.declared.task.Takes.TheVariants as takes

-- a word that belongs to no option, where there is one
abbrev pub word_rule : Text → Rule
word_rule name = record (new_rule name) { value_names = 1 }

-- all words that belong to no option, of which there may be none
abbrev pub words_rule : Text → Rule
words_rule name = record (new_rule name) { value_names = 1; action = Some Append }

-- an option of this name that takes this
abbrev pub taking_rule : Text → Takes → Rule
taking_rule name takes.Nothing = switch_rule name
taking_rule name (takes.Text value) = text_rule name []
taking_rule name (takes.TextOr value other) = text_rule name (other.now ∷ [])
taking_rule name (takes.Number value) = number_rule name
taking_rule name (takes.NumberOr value other) = number_rule_or name other.now
taking_rule name (takes.ValueOr value parser other) = option_rule name parser (other.now ∷ [])
taking_rule name (takes.Word value) = word_rule name
taking_rule name (takes.Words value) = words_rule name

abbrev pub with_option : App → NamedOption → App
with_option app option = with_rule app (taking_rule option.name.now option.takes)

-- the task, with its options in their order
abbrev pub task_app : NamedTask → App
task_app task = fold with_option (new_app task.name.now) task.options.now

abbrev pub with_task : App → NamedTask → App
with_task app task = with_subcommand app (task_app task).top

-- a program of this name, with its tasks in their order
abbrev pub app_with_tasks : Text → List NamedTask → App
app_with_tasks name tasks = fold with_task (bare_app name) tasks
