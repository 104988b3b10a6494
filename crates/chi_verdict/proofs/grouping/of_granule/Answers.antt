-- an operation of the granule and another, and the list once it is sorted
use Rattle.std.proofs.Common.{◌≡◌, ◌+◌, sym, ap, subst, ◌∙◌, arith, rules}
use Rattle.std.proofs.lemmas.Bool.{eq-eqb, ne_eqb}
use Rattle.std.proofs.lemmas.List.{get_or_read}
use Rattle.std.proofs.lemmas.List.Sorted.{IsNonDecreasingBy-from_sort_by_key}
use Rattle.chi_trace.specs.Explains.{at, nothing}
use Rattle.chi_trace.specs.Granules.{granule_of}
use Rattle.chi_verdict.proofs.Filling.{IsFilled, filled_all, filled_more, filled_none, filled_permuted, filled_without, is_own}
use Rattle.chi_verdict.proofs.OneGranule.{one_granule}
use Rattle.chi_verdict.proofs.grouping.of_granule.Goals as goal
use Rattle.chi_verdict.proofs.grouping.of_granule.Goals.{then-granule+in_ok-push, else-granule}

pub loop-place-init : goal.loop-place-init
loop-place-init c = filled_none c.args.ops.now (is_own c.args.ops.now c.args.granule) c.new-places.result.items c.new-places.ensures.items

pub loop-place-preserved : goal.loop-place-preserved
loop-place-preserved c =
    let ops = c.args.ops.now in
    let g = c.args.granule in
    let place = c.loop-place.place in
    let op = c.index-ops-place.result in
    let read : op ≡ at ops place = get_or_read ops place op c.loop-place-test.true c.index-ops-place.is nothing in
    let address : granule_of op ≡ c.granule.result = sym c.granule.ensures in
    elim c.if-granule.branch [
      | then-granule+in_ok-push w ↦
          let same : granule_of op ≡ g = address ∙ w.if-granule.true in
          filled_more ops (is_own ops g) place g c.loop-place.places.items c.if-granule.places.items op c.loop-place.invariant
          (eq-eqb (granule_of (at ops place)) g (ap granule_of (sym read) ∙ same)) read same (ap (λ v. v.items) w.places-is ∙ w.in_ok-push.ensures.items)
      | else-granule w ↦
          subst (λ v. IsFilled ops (is_own ops g) (place + 1) v.items) (sym w.places-is)
          (filled_without ops (is_own ops g) place c.loop-place.places.items c.loop-place.invariant
          (ne_eqb (granule_of (at ops place)) g (λ same. w.if-granule.false (sym address ∙ ap granule_of read ∙ same))))
    ]

pub returns : goal.returns
returns c =
    let ops = c.args.ops.now in
    let g = c.args.granule in
    let places = c.sort_by_key.new.self.items in
    let filled = filled_permuted ops (is_own ops g) c.loop-place.place c.loop-place.places.items places c.in_ok-sort_by_key.ensures.permutation c.loop-place.invariant in
    let each = filled_all ops (is_own ops g) c.loop-place.place places (omega arith) filled in
    let own = one_granule ops g places filled.placed each in
    let ends = IsNonDecreasingBy-from_sort_by_key (λ p. p.end) _ c.in_ok-sort_by_key.ensures.sorted (λ a r q k. search rules) in
    record {
      placed = filled.placed;
      each = each;
      granules = λ i j d order below. omega (arith, own i d (omega arith), own j d below);
      ends = λ k d below same. ends k (k + 1) d (omega arith) below;
    }
