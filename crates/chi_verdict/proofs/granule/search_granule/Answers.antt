-- the operations of the granule, and what is found of them, said of the trace
use Rattle.std.proofs.Common.{◌≡◌, ◌<◌, All, length, map, slice_index, sym, ap, subst, ◌∙◌, arith, rules}
use Rattle.std.proofs.lemmas.List.{take_all}
use Rattle.chi_trace.specs.Granules.{ExplainsGranule}
use Rattle.chi_verdict.specs.Groups.{places_of}
use Rattle.chi_verdict.proofs.OneGranule.{inside, sorted, within}
use Rattle.chi_verdict.proofs.Told.{indices, told_back, told_order}
use Rattle.chi_verdict.proofs.granule.search_granule.Goals as goal

pub at_places-requires : goal.at_places-requires
at_places-requires g c = inside c.args.ops.now c.args.group.now.granule c.args.group.now.run.now c.requires.grouped.each

pub order_of-requires-clause-sorted : goal.order_of-requires-clause-sorted
order_of-requires-clause-sorted g c =
    rw (c.deref.ensures.value, c.in_ok-own.ensures) (sorted c.args.ops.now c.args.group.now.granule c.args.group.now.run.now c.requires.traced c.requires.grouped)

pub order_of-requires-clause-within : goal.order_of-requires-clause-within
order_of-requires-clause-within g c =
    rw (c.deref.ensures.value, c.in_ok-own.ensures) (within c.args.ops.now c.args.group.now.granule c.args.group.now.run.now c.requires.traced c.requires.grouped)

pub bounds-run-place : goal.bounds-run-place
bounds-run-place g c =
    let own = c.deref.result.now in
    let finishes = rw c.in-Order.is at c.in_ok-places.ensures.order in
    let below = indices c.args.ops.now own c.args.group.now.run.now c.args.word c.args.final_word c.in-Order.places.items (c.deref.ensures.value ∙ c.in_ok-own.ensures) finishes in
    subst (All (λ k. k < length c.args.group.now.run.now)) (sym c.deref-place-items.ensures.value) below c.loop-place.place-index 0 c.loop-place-test.true

pub offset_bounds-run-place : goal.offset_bounds-run-place
offset_bounds-run-place g c = search (rules, bounds-run-place g c)

pub returns-in-Order-clause-order : goal.returns-in-Order-clause-order
returns-in-Order-clause-order g c =
    let ops = c.args.ops.now in
    let own = c.deref.result.now in
    let run = c.args.group.now.run.now in
    let finishes = rw c.in-Order.is at c.in_ok-places.ensures.order in
    let whole : c.loop-place.order.items ≡ map (slice_index (places_of run)) c.in-Order.places.items =
    c.loop-place.invariant
    ∙ ap (map (slice_index (places_of run))) (take_all c.loop-place.place-index c.deref-place-items.result.now (omega arith) ∙ c.deref-place-items.ensures.value) in
    subst (ExplainsGranule ops c.args.group.now.granule c.args.word c.args.final_word) (sym whole)
    (told_order c.places_explain.ensures ops own c.args.group.now.granule run c.args.word c.args.final_word c.in-Order.places.items (c.deref.ensures.value ∙ c.in_ok-own.ensures)
    c.requires.grouped.each finishes)

pub returns-in-Nothing-clause-nothing : goal.returns-in-Nothing-clause-nothing
returns-in-Nothing-clause-nothing g c order explains =
    let own = c.deref.result.now in
    let none = rw c.in-Nothing.is at c.in_ok-places.ensures.nothing in
    let moved = told_back c.places_explain.ensures c.args.ops.now own c.args.group.now.granule c.args.group.now.run.now c.args.word c.args.final_word order
    (c.deref.ensures.value ∙ c.in_ok-own.ensures) c.requires.grouped.each explains in
    none moved.0 moved.1
