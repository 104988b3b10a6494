-- one operation more, and the list once it is sorted twice
use Rattle.std.proofs.Common.{◌≡◌, true, refl, sym, ap, ◌∙◌, arith, rules}
use Rattle.std.proofs.Math.Bool.{and-true}
use Rattle.std.proofs.lemmas.List.{get_or_read}
use Rattle.std.proofs.lemmas.List.Sorted.{IsNonDecreasingBy-from_sort_by_key, answers_always, ties_still_rise}
use Rattle.chi_history.specs.History.{one_if}
use Rattle.chi_trace.specs.Explains.{at, is_place, nothing}
use Rattle.chi_trace.specs.Granules.{granule_of}
use Rattle.chi_verdict.proofs.Filling.{filled_all, filled_more, filled_none, filled_permuted}
use Rattle.chi_verdict.proofs.grouping.by_granule.Goals as goal

pub loop-place-init : goal.loop-place-init
loop-place-init c = filled_none c.args.ops.now (λ i. true) c.in_ok-places.places.items c.in_ok-places.ensures.items

pub loop-place-preserved : goal.loop-place-preserved
loop-place-preserved c =
    let ops = c.args.ops.now in
    let place = c.loop-place.place in
    let op = c.index-ops-place.result in
    let read : op ≡ at ops place = get_or_read ops place op c.loop-place-test.true c.index-ops-place.is nothing in
    let address : granule_of op ≡ c.granule.result = sym c.granule.ensures in
    filled_more ops (λ i. true) place c.granule.result c.loop-place.places.items c.push.new.self.items op c.loop-place.invariant refl read address
    c.in_ok-push.ensures.items

pub returns : goal.returns
returns c =
    let ops = c.args.ops.now in
    let place = c.loop-place.place in
    let by_end = c.sort_by_key.new.self.items in
    let places = c.sort_by_key-2.new.self.items in
    let first = filled_permuted ops (λ i. true) place c.loop-place.places.items by_end c.in_ok-sort_by_key.ensures.permutation c.loop-place.invariant in
    let filled = filled_permuted ops (λ i. true) place by_end places c.in_ok-sort_by_key-2.ensures.permutation first in
    record {
      placed = filled.placed;
      each = λ i. filled_all ops (λ i. true) place places (omega arith) filled i ∙ ap one_if (and-true (is_place ops i));
      granules = IsNonDecreasingBy-from_sort_by_key (λ p. p.granule) _ c.in_ok-sort_by_key-2.ensures.sorted (λ a r q k. search rules);
      ends = ties_still_rise (λ p. p.end) (λ p. p.granule) _ _ (c.in_ok-sort_by_key.ensures.sorted (λ p. p.end) (answers_always _ _ _ (λ f a r g h. search rules)))
          (c.in_ok-sort_by_key-2.ensures.stable (λ p. p.granule) (answers_always _ _ _ (λ f a r g h. search rules)));
    }
