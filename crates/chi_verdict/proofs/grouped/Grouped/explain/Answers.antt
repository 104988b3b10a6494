-- the granule's places stand between those of lower and those of higher granules
use Rattle.std.proofs.Common.{◌+◌, ◌<◌, ◌≤◌, ltb, ltb-true, All, get_or, take, rules, sym, subst, arith}
use Rattle.std.proofs.lemmas.Bool.Decides.{nat_tests}
use Rattle.std.proofs.lemmas.List.{get_or-drop, get_or-take, length-drop, length-take}
use Rattle.std.proofs.lemmas.List.Sorted.{IsPartitionPoint-from_clause, IsPartitionedBy-ltb}
use Rattle.chi_trace.specs.Explains.{is_place}
use Rattle.chi_verdict.specs.declared.grouping.Placed.{Placed}
use Rattle.chi_verdict.specs.Groups.{IsGrouped}
use Rattle.chi_verdict.proofs.Parts.{group_of}
use Rattle.chi_verdict.proofs.grouped.Grouped.explain.Goals as goal

pub past_granule-to-requires-clause-least : goal.past_granule-to-requires-clause-least
past_granule-to-requires-clause-least g c k d under =
    let places = c.as_slice-places.result.now in
    let from = c.partition_point-from.result in
    let n = c.args.granule in
    let is : IsGrouped c.operations-ops.result.now (is_place c.operations-ops.result.now) places =
    rw (c.operations-ops.ensures.operations, c.as_slice-places.ensures.value) c.self.invariant in
    let point = IsPartitionPoint-from_clause (λ (p : Placed). ltb p.granule n) _ _ c.partition_point-from.ensures.partitioned (IsPartitionedBy-ltb (λ p. p.granule) places n is.granules) (λ a r q k. search rules) in
    let no = point.1 (from + k) d (omega arith) (omega (arith, length-drop from places, under)) in
    subst (λ (p : Placed). n ≤ p.granule) (sym (get_or-drop from places k d)) (grind (arith, nat_tests, no))

pub search_granule-requires-clause-grouped : goal.search_granule-requires-clause-grouped
search_granule-requires-clause-grouped g c =
    let places = c.as_slice-places.result.now in
    let from = c.partition_point-from.result in
    let n = c.args.granule in
    let is : IsGrouped c.operations-ops.result.now (is_place c.operations-ops.result.now) places =
    rw (c.operations-ops.ensures.operations, c.as_slice-places.ensures.value) c.self.invariant in
    let point = IsPartitionPoint-from_clause (λ (p : Placed). ltb p.granule n) _ _ c.partition_point-from.ensures.partitioned (IsPartitionedBy-ltb (λ p. p.granule) places n is.granules) (λ a r q k. search rules) in
    let early : All (λ p. p.granule < n) (take from places) =
    λ k d under.
    let place : k < from = omega (arith, length-take from places, under) in
    subst (λ (p : Placed). p.granule < n) (sym (get_or-take from places k d place)) (ltb-true (get_or places k d).granule n (point.0 k d (omega arith) place)) in
    group_of c.operations-ops.result.now places from c.past_granule-to.result n is c.past_granule-to.ensures.from c.past_granule-to.ensures.within early
    c.past_granule-to.ensures.own c.past_granule-to.ensures.later
