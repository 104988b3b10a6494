-- the granule that is blamed, and the others
use Rattle.std.proofs.Common.{◌∷◌, map, refl, ap, ◌∙◌}
use Rattle.chi_excerpt.specs.Failures.{order_in}
use Rattle.chi_judge.specs.declared.standing.Standing.TheVariants.{Unexplained}
use Rattle.chi_granules.proofs.Numbers.{has_first, has_granules}
use Rattle.chi_granules.proofs.whole.granules_around.Goals as goal

pub returns-clause-each : goal.returns-clause-each
returns-clause-each c =
    let granule_numbers = c.in_ok-granule_numbers.field-0.items in
    let blamed = c.args.blame.now.granule in
    has_first c.args.recorded.now granule_numbers _ blamed (has_granules c.args.recorded.now granule_numbers c.in_ok-granule_numbers.ensures)
    (ap (map (λ d. d.granule)) c.in_ok-insert.ensures.items
    ∙ ap (λ l. blamed ∷ l) (c.in_ok-drawn.ensures.granules ∙ (c.deref-2.ensures.value ∙ rw c.deref.ensures.value at c.in_ok-others.ensures)))

pub returns-clause-around : goal.returns-clause-around
returns-clause-around c = record {
  first = record { granule = c.args.blame.now.granule; finding = Unexplained; order = c.in_ok-order.order };
  others = c.in_ok-drawn.drawn.items;
  parts = c.in_ok-insert.ensures.items;
  blamed = record { granule = refl; finding = refl; order = c.in_ok-order.ensures ∙ ap (order_in c.args.recorded.now c.args.blame.now.granule) c.deref-3.ensures.value };
  judged = c.in_ok-drawn.ensures.judged;
  granule_numbers = c.in_ok-granule_numbers.field-0.items;
  are_granules = c.in_ok-granule_numbers.ensures;
  but_blamed = c.in_ok-drawn.ensures.granules ∙ (c.deref-2.ensures.value ∙ rw c.deref.ensures.value at c.in_ok-others.ensures);
}
