-- A store opens with zeros.
use Rattle.std.proofs.Common.{rules, ◌≡◌, sym, subst, List, [], ◌∷◌, ℕ, replicate, le_refl}
use Rattle.chi_history.specs.declared.opening.Opening.{Opening}
use Rattle.chi_rule.specs.Rule.{RuleStands}
use Rattle.chi_rule.specs.Views.{all_below, knower}
use Rattle.chi_rule.proofs.SplitLemmas.{opens}
use Rattle.chi_bookstore.proofs.steps.begin.Goals as goal

pub of_words-requires : goal.of_words-requires
of_words-requires g c =
    let o : Opening = c.args.values.now in
    let zeros : c.as_slice.result.now ≡ replicate o.region.granules 0 = search rules in (
      [],
      subst (λ (ws : List ℕ). RuleStands o.region.granules o [] ws (knower o (all_below o.requesters) [] ∷ [])) (sym zeros)
          (opens o.region.granules o c.requires.region (le_refl o.region.granules)),
    )
