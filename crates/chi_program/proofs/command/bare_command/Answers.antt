-- The program wants a task, has a version, and takes its arguments without its name.
use Rattle.std.proofs.Common.{ap, ◌≡◌, ◌∙◌, true}
use Rattle.clap.specs.Simple.{App, Shape, app_of, app_of_fields, on_top}
use Rattle.chi_program.proofs.command.bare_command.Goals as goal

pub returns-clause-app : goal.returns-clause-app
returns-clause-app c =
    let unnamed : app_of c.no_binary_name.result ≡ on_top (λ (s : Shape). record s { no_binary_name = true }) (app_of c.new.result) =
    ap app_of_fields c.no_binary_name.ensures ∙ ap (λ (a : App). on_top (λ (s : Shape). record s { no_binary_name = true }) a) (ap app_of_fields c.in_ok-bin_name.ensures.0) in
    ap app_of_fields c.subcommand_required.ensures
    ∙ ap (λ (a : App). on_top (λ (s : Shape). record s { subcommand_required = true }) a)
    (ap app_of_fields c.after_help.ensures ∙ (ap app_of_fields c.version.ensures
    ∙ ap (λ (a : App). on_top (λ (s : Shape). record s { has_version = true }) a) (ap app_of_fields c.about.ensures
    ∙ (unnamed ∙ ap (λ (a : App). on_top (λ (s : Shape). record s { no_binary_name = true }) a) c.new.ensures.app))))
