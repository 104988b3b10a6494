-- the order of the points
use Rattle.std.proofs.Common.{◌≡◌, List, true, rules, ap, ◌∙◌}
use Rattle.std.specs.List.Sorted.{IsNonDecreasingBy, IsStableByKey}
use Rattle.std.proofs.lemmas.List.Sorted.{All-permutation, IsNonDecreasingBy-from_sort_by_key, IsPermutation-map, answers_always}
use Rattle.std.specs.Ordering.{nat_cmp}
use Rattle.std.proofs.lemmas.List.{take_all}
use Rattle.chi_trace.specs.Explains.{is_place}
use Rattle.chi_verdict.specs.declared.merge_orders.Point.{Point}
use Rattle.chi_verdict.specs.Points.{order_of}
use Rattle.chi_verdict.proofs.Woven.{IsPointOf, in_time, parts_stay, time_of}
use Rattle.chi_verdict.proofs.merge_orders.merge_orders.Goals as goal

abbrev sorted : goal.After-loop-point → List Point
sorted c = c.sort_by_key.new.self.items

pushed : (c : goal.After-loop-point) → c.loop-point.order.items ≡ order_of (sorted c)
pushed c = c.loop-point.invariant ∙ ap order_of (take_all c.loop-point.point-index c.deref-point-items.result.now c.loop-point-test.false ∙ c.deref-point-items.ensures.value)

rises : (c : goal.After-loop-point) → IsNonDecreasingBy time_of (sorted c)
rises c = IsNonDecreasingBy-from_sort_by_key time_of _ c.in_ok-sort_by_key.ensures.sorted (λ a r q k. search rules)

stable : (c : goal.After-loop-point) → IsStableByKey time_of nat_cmp c.args.points.now.items (sorted c)
stable c = c.in_ok-sort_by_key.ensures.stable time_of (answers_always _ _ _ (λ f a r g h. search rules))

pub returns-clause-times : goal.returns-clause-times
returns-clause-times c =
    let points = All-permutation (IsPointOf c.args.ops.now) c.args.points.now.items (sorted c) c.in_ok-sort_by_key.ensures.permutation c.requires.points in
    rw (pushed c) (in_time c.args.ops.now (sorted c) points (rises c))

pub returns-clause-places : goal.returns-clause-places
returns-clause-places c all =
    rw (pushed c) (All-permutation (λ i. is_place c.args.ops.now i ≡ true) (order_of c.args.points.now.items) (order_of (sorted c))
    (IsPermutation-map (λ (p : Point). p.place) c.args.points.now.items (sorted c) c.in_ok-sort_by_key.ensures.permutation) all)

pub returns-clause-parts : goal.returns-clause-parts
returns-clause-parts c g = rw (pushed c) (parts_stay c.args.ops.now c.args.points.now.items (sorted c) c.requires.ordered (rises c) (stable c) g)
