-- The number is the one that was found, and what is not 1 to 7 is 2.
use Rattle.std.proofs.Common.{ap, codes, ◌≡◌, ◌∙◌}
use Rattle.std.specs.Option.{option_map_or, unwrap_or}
use Rattle.clap.specs.Matches.{found_of}
use Rattle.clap.specs.Walk.{byte_or_zero, one_of, rows_of}
use Rattle.chi_home.proofs.OptionValuesLemmas.{number_found}
use Rattle.chi_home.specs.OptionValues.{workers_or_two}
use Rattle.chi_home.proofs.command.chosen_workers.Goals as goal

pub returns : goal.returns
returns c =
    let is : c.unwrap_or-count.result ≡ option_map_or byte_or_zero (one_of (codes "workers") (rows_of (found_of c.args.chosen.now))) 0 =
    c.unwrap_or-count.ensures ∙ number_found (found_of c.args.chosen.now) (codes "workers") c.get_one.result c.get_one.ensures.none c.get_one.ensures.value in
    c.unwrap_or.ensures ∙ (ap (λ o. unwrap_or o 2) c.new.ensures ∙ ap workers_or_two is)
