-- the command line of the program, as `clap` reads it
use Rattle.std.specs.Prelude.{◌≡◌, List, [], ◌∷◌, Some, codes}
use Rattle.clap.specs.Walk.{Rule, Text}
use Rattle.clap.specs.Simple.{App, new_app, new_rule, with_rule, with_subcommand}
use Rattle.clap.specs.Faults.{fault_of}
use Rattle.clap.specs.declared.builder.action.ArgAction.TheVariants.{Append}
use Rattle.chi_program.specs.Rules.{bare_app, number_rule, number_rule_or, switch_rule, text_rule}

-- the budget of both tasks is a whole number below 2^64, and 1,000,000 by default
abbrev pub budget_rule : Rule
budget_rule = number_rule_or (codes "budget") (codes "1000000")

-- how many operations both show is a whole number below 2^64, and 16 by default
abbrev pub around_rule : Rule
around_rule = number_rule_or (codes "around") (codes "16")

-- the file of a page is any text
abbrev pub html_rule : Rule
html_rule = text_rule (codes "html") []

-- the file that is read is any text, where there is one
abbrev pub file_rule : Rule
file_rule = record (new_rule (codes "file")) { value_names = 1 }

-- what an error says of its request is any text, and `unknown` by default
abbrev pub errors_rule : Rule
errors_rule = text_rule (codes "errors") (codes "unknown" ∷ [])

-- the form of an answer is any text, and `text` by default
abbrev pub format_rule : Rule
format_rule = text_rule (codes "format") (codes "text" ∷ [])

-- the granule is any text
abbrev pub granule_rule : Rule
granule_rule = text_rule (codes "granule") []

-- The task `explain`: its input may tell events, or flits with points or without and what errors say of them. A witness may be asked
-- for, a form of the answer, and a granule. Its limits, its time and how many operations are shown are whole numbers below 2^64. It has
-- the file of a page, a budget and a file that is read.
abbrev pub explain_app : App
explain_app =
    with_rule (with_rule (with_rule (with_rule (with_rule (with_rule (with_rule (with_rule (with_rule (with_rule (with_rule (with_rule (with_rule (with_rule (new_app (codes "explain")) (switch_rule (codes "events"))) (switch_rule (codes "flits"))) (switch_rule (codes "points"))) errors_rule) (switch_rule (codes "witness"))) format_rule) granule_rule)
    (number_rule (codes "until"))) around_rule) html_rule) budget_rule) (number_rule (codes "seconds"))) (number_rule (codes "memory"))) file_rule

-- how many operations have to have ended is a whole number below 2^64, and 0 by default
abbrev pub operations_rule : Rule
operations_rule = number_rule_or (codes "require-operations") (codes "0")

-- the file of the lines of a granule is any text
abbrev pub save_rule : Rule
save_rule = text_rule (codes "save") []

-- The task `watch`: its input may tell flits, with points or without, and what errors say of them. It has a budget, how many operations
-- are shown, a form of the answer, a file of the lines of a granule and one of its page. It may be asked to keep going, and may require
-- the end, operations, quiet and judging. It has a file that is read.
abbrev pub watch_app : App
watch_app =
    with_rule (with_rule (with_rule (with_rule (with_rule (with_rule (with_rule (with_rule (with_rule (with_rule (with_rule (with_rule (with_rule (with_rule (new_app (codes "watch")) (switch_rule (codes "flits"))) (switch_rule (codes "points"))) errors_rule) budget_rule) around_rule) format_rule) save_rule) html_rule)
    (switch_rule (codes "keep-going"))) (switch_rule (codes "require-end"))) operations_rule) (switch_rule (codes "require-quiet"))) (switch_rule (codes "require-judged"))) file_rule

-- how many operations a bin has to count to be covered is a whole number below 2^64, and 1 by default
abbrev pub goal_rule : Rule
goal_rule = number_rule_or (codes "goal") (codes "1")

-- so is how many of a hundred bins have to be covered, and 0 by default
abbrev pub require_rule : Rule
require_rule = number_rule_or (codes "require") (codes "0")

-- the file of a plan is any text
abbrev pub plan_rule : Rule
plan_rule = text_rule (codes "plan") []

-- the files that are counted are any texts, of which there may be none
abbrev pub files_rule : Rule
files_rule = record (new_rule (codes "file")) { value_names = 1; action = Some Append }

-- The task `cover`: it has these numbers, and the file of a plan. Its inputs may tell events, or flits with points or without and what errors say of them. A form
-- of the answer may be asked for. It has the file of a page, and files that are counted.
abbrev pub cover_app : App
cover_app =
    with_rule (with_rule (with_rule (with_rule (with_rule (with_rule (with_rule (with_rule (with_rule (with_rule (new_app (codes "cover")) goal_rule) plan_rule) require_rule) (switch_rule (codes "events"))) (switch_rule (codes "flits"))) (switch_rule (codes "points"))) errors_rule) format_rule) html_rule) files_rule

-- the program, with its tasks `explain`, `watch` and `cover`
abbrev pub program_app : App
program_app = with_subcommand (with_subcommand (with_subcommand (bare_app (codes "chicheck")) explain_app.top) watch_app.top) cover_app.top

-- the arguments name a task: `clap` finds no fault in them
abbrev pub IsTaken : List Text → Type 0
IsTaken arguments = fault_of program_app arguments ≡ []
