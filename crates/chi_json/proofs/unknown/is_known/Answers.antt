-- a name that is not ignored is in one of the lists, or in none
use Rattle.std.proofs.Common.{◌≡◌, false, rules, sym, tests, ◌∙◌}
use Rattle.std.proofs.lemmas.Iterator.{YieldsList-from_slice}
use Rattle.std.proofs.lemmas.Iterator.Search.{any_from_yields_List}
use Rattle.chi_json.specs.Unknown.{is_among, is_ignored, is_known}
use Rattle.chi_json.proofs.UnknownNames.{any_over}
use Rattle.chi_json.proofs.unknown.is_known.Goals as goal

pub returns-else-is_ignored : goal.returns-else-is_ignored
unfolding is_known
returns-else-is_ignored g c =
    let not_ignored : is_ignored c.args.name.now ≡ false = sym c.is_ignored.ensures ∙ c.if-is_ignored.false in
    let any = any_from_yields_List (λ members. is_among g.M.Named.name_of members.now c.args.name.now) _ _ c.any.result c.any.ensures.ran
    (YieldsList-from_slice c.args.known.now cc) (λ x b q k. search (rules, tests)) in
    rw not_ignored (any ∙ sym (any_over (λ members. is_among g.M.Named.name_of members c.args.name.now) (λ members. members.now) c.args.known.now))
