-- The number is the one that was found, and what is not 1 to 16 is 4.
use Rattle.std.proofs.Common.{rules, codes, ◌≡◌, ◌∙◌}
use Rattle.std.specs.Option.{option_map_or}
use Rattle.clap.specs.Matches.{found_of}
use Rattle.clap.specs.Walk.{byte_or_zero, one_of, rows_of}
use Rattle.chi_home.proofs.OptionValuesLemmas.{number_found}
use Rattle.chi_home.proofs.command.chosen_attempts.Goals as goal

pub returns-then-attempts-le-MOST_ATTEMPTS : goal.returns-then-attempts-le-MOST_ATTEMPTS
returns-then-attempts-le-MOST_ATTEMPTS c =
    let is : c.unwrap_or-attempts.result ≡ option_map_or byte_or_zero (one_of (codes "attempts") (rows_of (found_of c.args.chosen.now))) 0 =
    c.unwrap_or-attempts.ensures ∙ number_found (found_of c.args.chosen.now) (codes "attempts") c.get_one.result c.get_one.ensures.none c.get_one.ensures.value in
    rw (← is) (search rules)

pub returns-else-attempts-ge1 : goal.returns-else-attempts-ge1
returns-else-attempts-ge1 c =
    let is : c.unwrap_or-attempts.result ≡ option_map_or byte_or_zero (one_of (codes "attempts") (rows_of (found_of c.args.chosen.now))) 0 =
    c.unwrap_or-attempts.ensures ∙ number_found (found_of c.args.chosen.now) (codes "attempts") c.get_one.result c.get_one.ensures.none c.get_one.ensures.value in
    rw (← is) (search rules)
