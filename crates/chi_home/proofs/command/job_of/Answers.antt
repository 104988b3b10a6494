-- What is answered to the arguments is what `clap` finds in them, or out of memory. The task and the options are those
-- of the subcommand that it finds.
use Rattle.std.proofs.Common.{map, string_bytes}
use Rattle.std.proofs.lemmas.Result.{err_from_is_err_and}
use Rattle.clap.specs.Matches.{found_of}
use Rattle.clap.specs.Simple.{app_of}
use Rattle.clap.specs.Walk.{rows_of}
use Rattle.chi_home.proofs.CommandLemmas.{arguments_fault, arguments_taken, asked_found}
use Rattle.chi_home.proofs.command.job_of.Goals as goal

pub returns-in_err-matches-clause-refused : goal.returns-in_err-matches-clause-refused
returns-in_err-matches-clause-refused c =
    let p = err_from_is_err_and c.from_residual-in_err-matches.result c.from_residual-in_err-matches.ensures.1 in
    rw (p.1, p.2) (arguments_fault (app_of c.in_ok-whole_command.field-0) (map string_bytes c.args.arguments.now) _ c.in_ok-whole_command.ensures.app c.in_err-matches.ensures.kinds)

pub returns-clause-taken : goal.returns-clause-taken
returns-clause-taken c = arguments_taken _ _ c.in_ok-whole_command.ensures.app c.in_ok-matches.ensures.kinds

pub returns-clause-chosen : goal.returns-clause-chosen
returns-clause-chosen c =
    (asked_found _ _ c.in_ok-matches.matches _ (rows_of (found_of c.in-Some.chosen.now)) _ c.in_ok-whole_command.ensures.app c.in_ok-matches.ensures.matches
    c.in-Some.ensures.name c.in-Some.ensures.rows c.chosen_asked.ensures.named c.chosen_asked.ensures.options).0

pub returns-clause-first : goal.returns-clause-first
returns-clause-first c =
    (asked_found _ _ c.in_ok-matches.matches _ (rows_of (found_of c.in-Some.chosen.now)) _ c.in_ok-whole_command.ensures.app c.in_ok-matches.ensures.matches
    c.in-Some.ensures.name c.in-Some.ensures.rows c.chosen_asked.ensures.named c.chosen_asked.ensures.options).1
