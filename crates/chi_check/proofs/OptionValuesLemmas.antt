-- the files that `clap` found
use Rattle.std.proofs.Common.{ap, ◌≡◌, ◌∙◌, List, [], Option, Some, None}
use Rattle.std.specs.Option.{option_map, unwrap_or}
use Rattle.clap.specs.Matches.{matched_of, raw_values}
use Rattle.clap.specs.Walk.{Text, all_of, rows_of}
use Rattle.clap.specs.declared.parser.matches.Found.{Found}
use Rattle.clap.proofs.WalkLemmas.{raw_values-rows}

-- the values of an option, where it has some
pub values_found : (found : Found) (option : Text) (values : List Text) → Some values ≡ option_map raw_values (matched_of found option)
    → values ≡ unwrap_or (all_of option (rows_of found)) []
values_found found option values is = ap (λ o. unwrap_or o []) (is ∙ raw_values-rows found option)

pub no_values_found : (found : Found) (option : Text) → None ≡ option_map raw_values (matched_of found option) → [] ≡ unwrap_or (all_of option (rows_of found)) []
no_values_found found option is = ap (λ (o : Option (List Text)). unwrap_or o []) (is ∙ raw_values-rows found option)
