-- The files are all that were found.
use Rattle.std.proofs.Common.{◌≡◌, ◌∙◌, List, Result, Ok, Err, codes, ap, map, sym, IfOk}
use Rattle.std.specs.Borrow.{Bor}
use Rattle.std.specs.Option.{option_map}
use Rattle.std.specs.Prelude.{Vec}
use Rattle.clap.specs.Matches.{found_of}
use Rattle.clap.specs.Walk.{Text}
use Rattle.chi_check.proofs.OptionValuesLemmas.{no_values_found, values_found}
use Rattle.chi_check.proofs.option_values.files_given.Goals as goal

copied : {A E : Type 0} (r : Result (Vec (Bor Text) A) E) (files : List (Bor Text)) (paths : List Text) → IfOk r (λ v. v.items ≡ files) → map (λ path. path.now) files ≡ paths
    → IfOk r (λ v. map (λ path. path.now) v.items ≡ paths)
copied (Ok v) files paths same is = ap (map (λ (path : Bor Text). path.now)) same ∙ is
copied (Err e) files paths same is = tt

pub returns-in-Some : goal.returns-in-Some
returns-in-Some c =
    copied c.from_slice.result c.in-Some.files.now _ c.from_slice.ensures.items
    (values_found (found_of c.args.matches.now) (codes "file") _ (ap (option_map (λ (s : Bor (List (Bor Text))). map (λ (path : Bor Text). path.now) s.now)) (sym c.in-Some.is) ∙ c.get_strs.ensures))

pub returns-in-None : goal.returns-in-None
returns-in-None c =
    ap (map (λ (path : Bor Text). path.now)) c.new.ensures.items
    ∙ no_values_found (found_of c.args.matches.now) (codes "file") (ap (option_map (λ (s : Bor (List (Bor Text))). map (λ (path : Bor Text). path.now) s.now)) (sym c.in-None.is) ∙ c.get_strs.ensures)
