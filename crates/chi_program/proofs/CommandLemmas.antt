-- the subcommand that the arguments name
use Rattle.std.proofs.Common.{ap, ap₂, sym, ◌≡◌, ◌∙◌, Bool, true, false, not, ◌&&◌, List, refl, Option, Some, None}
use Rattle.std.specs.Option.{option_map, unwrap_or}
use Rattle.std.specs.Prelude.{Box}
use Rattle.std.specs.Box.{box_value}
use Rattle.clap.specs.Faults.{is_simple_and_free}
use Rattle.clap.specs.Matches.{subcommand_name_of}
use Rattle.clap.specs.Simple.{App, HasMatchesOf, subcommand_of, subcommand_rows, subcommand_rows_of}
use Rattle.clap.specs.Walk.{Row, Text}
use Rattle.clap.specs.declared.parser.matches.SubCommand.{SubCommand}
use Rattle.clap.specs.declared.parser.matches.ArgMatches.{ArgMatches}
use Rattle.clap.specs.declared.parser.matches.ArgMatches.TheViews.{out-ArgMatches, out-SubCommand}
use Rattle.clap.proofs.WalkLemmas.{both}

-- the third of a row of tests fails
pub third_fails : (a b c d : Bool) → (a && (b && (not c && d))) ≡ true → c ≡ false
third_fails true true false d h = refl
third_fails true true true d h = cc
third_fails true false c d h = cc
third_fails false b c d h = cc

-- a subcommand of this name, with these options
subcommand_is : {Z : Type 0} (met : Option (Box SubCommand Z)) (name : Text) (found : List Row)
    → Some name ≡ option_map (λ b. (out-SubCommand (box_value b)).name.now) met
    → Some found ≡ option_map (λ p. p.1) (subcommand_rows met) → subcommand_rows met ≡ Some (name, found)
subcommand_is None name found is_named has = cc
subcommand_is (Some b) name found is_named has =
    ap₂ (λ (n : Text) (f : List Row). Some (n, f)) (sym (ap (λ o. unwrap_or o name) is_named)) (sym (ap (λ o. unwrap_or o found) has))

-- the subcommand that the arguments name, and its options
pub subcommand_found : (app : App) (arguments : List Text) (matches : ArgMatches) (name : Text) (found : List Row) → is_simple_and_free app ≡ true
    → HasMatchesOf app arguments matches → Some name ≡ subcommand_name_of matches → Some found ≡ option_map (λ p. p.1) (subcommand_rows_of matches)
    → subcommand_of app arguments ≡ Some (name, found)
subcommand_found app arguments matches name found simple has is_named finds =
    sym (has (both _ _ simple).0).1 ∙ subcommand_is (out-ArgMatches matches).subcommand name found is_named finds
