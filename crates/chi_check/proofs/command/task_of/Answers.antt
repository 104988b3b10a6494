-- What is answered to the arguments is what `clap` finds in them, or out of memory. The task and its options are those
-- of the subcommand that it finds.
use Rattle.std.proofs.Common.{inl, inr, map, string_bytes, sym, ◌∙◌}
use Rattle.std.proofs.lemmas.Result.{err_from_is_err_and}
use Rattle.clap.specs.Matches.{found_of}
use Rattle.clap.specs.Simple.{app_of}
use Rattle.clap.specs.Walk.{rows_of}
use Rattle.chi_check.specs.OptionValues.{ArePassed}
use Rattle.chi_check.proofs.CommandLemmas.{arguments_fault, arguments_taken, finds, named_first, program_is_simple}
use Rattle.chi_check.proofs.command.task_of.Goals as goal

pub returns-in_err-matches-clause-refused : goal.returns-in_err-matches-clause-refused
returns-in_err-matches-clause-refused c =
    let p = err_from_is_err_and c.from_residual-in_err-matches.result c.from_residual-in_err-matches.ensures.1 in
    let app = app_of c.in_ok-whole_command.field-0 in
    let is = c.in_ok-whole_command.ensures.app in
    rw (p.1, p.2) (arguments_fault app (map string_bytes c.args.arguments.now) _ is (c.in_err-matches.ensures.kinds (program_is_simple app is)))

pub returns-clause-taken : goal.returns-clause-taken
returns-clause-taken c =
    let app = app_of c.in_ok-whole_command.field-0 in
    let is = c.in_ok-whole_command.ensures.app in
    arguments_taken app (map string_bytes c.args.arguments.now) is (c.in_ok-matches.ensures.kinds (program_is_simple app is))

pub returns-clause-chosen : goal.returns-clause-chosen
returns-clause-chosen c =
    let app = app_of c.in_ok-whole_command.field-0 in
    let is = c.in_ok-whole_command.ensures.app in
    let name = c.in-Some.name.now in
    let found = rows_of (found_of c.in-Some.matches.now) in
    let found_so = finds app (map string_bytes c.args.arguments.now) c.in_ok-matches.matches name found is c.in_ok-matches.ensures.matches c.in-Some.ensures.name c.in-Some.ensures.rows in
    let passed : ArePassed found = record {
      flits = sym c.lacks_flits.ensures ∙ c.if-lacks_flits.false;
      effect = sym c.has_other_effect.ensures ∙ c.if-has_other_effect.false;
      format = sym c.has_other_format.ensures ∙ c.if-has_other_format.false;
      granule = c.has_no_address.ensures.passed c.if-has_no_address.false;
    } in
    (name, found, found_so, passed, c.in_ok-chosen_task.ensures.named, c.in_ok-chosen_task.ensures.options)

pub returns-clause-first : goal.returns-clause-first
returns-clause-first c =
    let app = app_of c.in_ok-whole_command.field-0 in
    let is = c.in_ok-whole_command.ensures.app in
    let arguments = map string_bytes c.args.arguments.now in
    let name = c.in-Some.name.now in
    let found = rows_of (found_of c.in-Some.matches.now) in
    let found_so = finds app arguments c.in_ok-matches.matches name found is c.in_ok-matches.ensures.matches c.in-Some.ensures.name c.in-Some.ensures.rows in
    named_first arguments name found c.in_ok-chosen_task.field-0 found_so c.in_ok-chosen_task.ensures.named

pub returns-then-lacks_flits-clause-refused : goal.returns-then-lacks_flits-clause-refused
returns-then-lacks_flits-clause-refused c =
    let app = app_of c.in_ok-whole_command.field-0 in
    let is = c.in_ok-whole_command.ensures.app in
    let name = c.in-Some.name.now in
    let found = rows_of (found_of c.in-Some.matches.now) in
    let found_so = finds app (map string_bytes c.args.arguments.now) c.in_ok-matches.matches name found is c.in_ok-matches.ensures.matches c.in-Some.ensures.name c.in-Some.ensures.rows in
    inr (inl (c.in_ok-refused.ensures.kind, (name, found, found_so, sym c.lacks_flits.ensures ∙ c.if-lacks_flits.true)))

pub returns-then-has_other_effect-clause-refused : goal.returns-then-has_other_effect-clause-refused
returns-then-has_other_effect-clause-refused c =
    let app = app_of c.in_ok-whole_command.field-0 in
    let is = c.in_ok-whole_command.ensures.app in
    let name = c.in-Some.name.now in
    let found = rows_of (found_of c.in-Some.matches.now) in
    let found_so = finds app (map string_bytes c.args.arguments.now) c.in_ok-matches.matches name found is c.in_ok-matches.ensures.matches c.in-Some.ensures.name c.in-Some.ensures.rows in
    inr (inr (inl (c.in_ok-refused-2.ensures.kind, (name, found, found_so, sym c.has_other_effect.ensures ∙ c.if-has_other_effect.true))))

pub returns-then-has_other_format-clause-refused : goal.returns-then-has_other_format-clause-refused
returns-then-has_other_format-clause-refused c =
    let app = app_of c.in_ok-whole_command.field-0 in
    let is = c.in_ok-whole_command.ensures.app in
    let name = c.in-Some.name.now in
    let found = rows_of (found_of c.in-Some.matches.now) in
    let found_so = finds app (map string_bytes c.args.arguments.now) c.in_ok-matches.matches name found is c.in_ok-matches.ensures.matches c.in-Some.ensures.name c.in-Some.ensures.rows in
    inr (inr (inr (inl (c.in_ok-refused-3.ensures.kind, (name, found, found_so, sym c.has_other_format.ensures ∙ c.if-has_other_format.true)))))

pub returns-then-has_no_address-clause-refused : goal.returns-then-has_no_address-clause-refused
returns-then-has_no_address-clause-refused c =
    let app = app_of c.in_ok-whole_command.field-0 in
    let is = c.in_ok-whole_command.ensures.app in
    let name = c.in-Some.name.now in
    let found = rows_of (found_of c.in-Some.matches.now) in
    let found_so = finds app (map string_bytes c.args.arguments.now) c.in_ok-matches.matches name found is c.in_ok-matches.ensures.matches c.in-Some.ensures.name c.in-Some.ensures.rows in
    inr (inr (inr (inr (c.in_ok-refused-4.ensures.kind, name, found, found_so, c.has_no_address.ensures.refused c.if-has_no_address.true))))
