-- what the program's command line is to `clap`
use Rattle.std.proofs.Common.{◌≡◌, ◌⊎◌, ◌∙◌, true, false, List, [], ◌∷◌, Option, Some, codes, inl, refl, ap, subst, sym}
use Rattle.std.specs.Option.{option_map, unwrap_or}
use Rattle.std.specs.Str.{bytes_eq}
use Rattle.clap.specs.Faults.{fault_of, is_simple_and_free}
use Rattle.clap.specs.Kinds.{IsAmong}
use Rattle.clap.specs.Matches.{subcommand_name_of}
use Rattle.clap.specs.Simple.{App, HasMatchesOf, built, entered, names_of, subcommand_of, subcommand_rows_of}
use Rattle.clap.specs.Walk.{Row, Text, Walk, nothing_held, walk_from}
use Rattle.clap.specs.declared.error.kind.ErrorKind.{ErrorKind}
use Rattle.clap.specs.declared.error.kind.ErrorKind.TheVariants as error_kind
use Rattle.clap.specs.declared.parser.matches.ArgMatches.{ArgMatches}
use Rattle.clap.proofs.OnLiterals.{clap_on_literals}
use Rattle.clap.proofs.WalkLemmas.{walk_stopped}
use Rattle.chi_check.specs.OptionValues.{Finds, IsArgumentsFault, IsCover, IsExplain, IsNamed, IsNamedFirst, IsWatch}
use Rattle.chi_check.specs.CommandLine.{IsTaken, program_app}
use Rattle.chi_program.specs.OptionValues.{BeginsWith}
use Rattle.chi_program.proofs.CommandLemmas.{subcommand_found}
use Rattle.chi_check.specs.declared.command.Task.{Task}
use Rattle.chi_check.specs.declared.command.Task.TheVariants.{Explain, Watch, Cover}

literals : is_simple_and_free program_app ≡ true
unfolding clap_on_literals
literals = refl

-- `clap` says what it answers to any arguments
pub program_is_simple : (app : App) → app ≡ program_app → is_simple_and_free app ≡ true
program_is_simple app is = ap is_simple_and_free is ∙ literals

-- the subcommand that the arguments name, and its options
pub finds : (app : App) (arguments : List Text) (matches : ArgMatches) (name : Text) (found : List Row) → app ≡ program_app
    → HasMatchesOf app arguments matches → Some name ≡ subcommand_name_of matches → Some found ≡ option_map (λ p. p.1) (subcommand_rows_of matches)
    → Finds arguments name found
finds app arguments matches name found is has is_named rows =
    sym (ap (λ (a : App). subcommand_of a arguments) is) ∙ subcommand_found app arguments matches name found (program_is_simple app is) has is_named rows

-- the name of the subcommand that the arguments name
name_found : List Text → Option Text
name_found arguments = option_map (λ p. p.0) (subcommand_of program_app arguments)

-- where the walk has met a subcommand it leaves the other arguments to it
explain_met : (rest : List Text) → name_found (codes "explain" ∷ rest) ≡ Some (codes "explain")
unfolding clap_on_literals name_found
explain_met rest =
    let app = built program_app in
    ap (λ (end : Walk). option_map (λ p. p.0) (entered app end.stopped)) (sym (walk_stopped app.top.rules (names_of app) (walk_from nothing_held) (codes "explain") [] rest))

watch_met : (rest : List Text) → name_found (codes "watch" ∷ rest) ≡ Some (codes "watch")
unfolding clap_on_literals name_found
watch_met rest =
    let app = built program_app in
    ap (λ (end : Walk). option_map (λ p. p.0) (entered app end.stopped)) (sym (walk_stopped app.top.rules (names_of app) (walk_from nothing_held) (codes "watch") [] rest))

cover_met : (rest : List Text) → name_found (codes "cover" ∷ rest) ≡ Some (codes "cover")
unfolding clap_on_literals name_found
cover_met rest =
    let app = built program_app in
    ap (λ (end : Walk). option_map (λ p. p.0) (entered app end.stopped)) (sym (walk_stopped app.top.rules (names_of app) (walk_from nothing_held) (codes "cover") [] rest))

-- each name is that of its own task alone
explain_named : (name : Text) (task : Task) → IsNamed name task → name ≡ codes "explain" → IsExplain task
explain_named name (Explain options file) named is = tt
explain_named name (Watch options file) named is =
    let other : false ≡ true = sym (ap (λ n. bytes_eq n (codes "watch")) is) ∙ named in cc
explain_named name (Cover options) named is =
    let other : false ≡ true = sym (ap (λ n. bytes_eq n (codes "cover")) is) ∙ named in cc

watch_named : (name : Text) (task : Task) → IsNamed name task → name ≡ codes "watch" → IsWatch task
watch_named name (Explain options file) named is =
    let other : true ≡ false = sym (ap (λ n. bytes_eq n (codes "watch")) is) ∙ named.0 in cc
watch_named name (Watch options file) named is = tt
watch_named name (Cover options) named is =
    let other : false ≡ true = sym (ap (λ n. bytes_eq n (codes "cover")) is) ∙ named in cc

cover_named : (name : Text) (task : Task) → IsNamed name task → name ≡ codes "cover" → IsCover task
cover_named name (Explain options file) named is =
    let other : true ≡ false = sym (ap (λ n. bytes_eq n (codes "cover")) is) ∙ named.1 in cc
cover_named name (Watch options file) named is =
    let other : false ≡ true = sym (ap (λ n. bytes_eq n (codes "watch")) is) ∙ named in cc
cover_named name (Cover options) named is = tt

-- a subcommand that is the first argument is the one that is found
module _ (arguments : List Text) (name : Text) (found : List Row) (task : Task) (is : Finds arguments name found) (named : IsNamed name task) where
  begins_with : (word : Text) → (begins : BeginsWith arguments word) → name_found (word ∷ begins.0) ≡ Some word → name ≡ word
  unfolding name_found
  begins_with word begins first =
      ap (λ n. unwrap_or n name) (ap (option_map (λ p. p.0)) (sym is) ∙ (ap name_found begins.1 ∙ first))

  pub named_first : IsNamedFirst arguments task
  named_first = (
    λ explain. explain_named name task named (begins_with (codes "explain") explain (explain_met explain.0)),
    λ watch. watch_named name task named (begins_with (codes "watch") watch (watch_met watch.0)),
    λ cover. cover_named name task named (begins_with (codes "cover") cover (cover_met cover.0)),
  )

-- what `clap` refuses
pub arguments_fault : (app : App) (arguments : List Text) (kind : ErrorKind) → app ≡ program_app
    → (kind ≡ error_kind.OutOfMemory) ⊎ IsAmong kind (fault_of app arguments) → IsArgumentsFault arguments kind
arguments_fault app arguments kind is h = inl (subst (λ (a : App). (kind ≡ error_kind.OutOfMemory) ⊎ IsAmong kind (fault_of a arguments)) is h)

-- and what it takes
pub arguments_taken : (app : App) (arguments : List Text) → app ≡ program_app → fault_of app arguments ≡ [] → IsTaken arguments
arguments_taken app arguments is h = subst (λ (a : App). fault_of a arguments ≡ []) is h
