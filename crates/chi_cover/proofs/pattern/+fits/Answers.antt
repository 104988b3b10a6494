-- of two stars the first is left out
use Rattle.std.proofs.Common.{◌≡◌, ◌∷◌, List, ℕ, ap, rules, sym, ◌∙◌}
use Rattle.chi_cover.specs.Plan.{fits}
use Rattle.chi_cover.proofs.Stars.{star_again}
use Rattle.chi_cover.proofs.pattern.+fits.Goals as goal

pub returns-then-is_starred : goal.returns-then-is_starred
returns-then-is_starred t c =
    let whole : c.args.pattern.now ≡ c.in-Some.first.now ∷ c.in-Some.others.now = search rules in
    c.fits.ensures
    ∙ (sym (star_again c.in-Some.first.now c.in-Some.others.now c.args.name.now c.if-first-eq-STAR.true (sym c.is_starred.ensures ∙ c.if-is_starred.true))
    ∙ ap (λ (ps : List ℕ). fits ps c.args.name.now) (sym whole))
