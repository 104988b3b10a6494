-- the granule's operations stand between those of lower and those of higher granules
use Rattle.std.proofs.Common.{◌≡◌, ◌-◌, leb, ltb, List, true, false, drop, filter, length, take, rules, sym, ap, subst, ◌∙◌, arith}
use Rattle.std.specs.Prelude.{IsPermutation}
use Rattle.std.specs.List.Sorted.{IsNonDecreasingBy, IsPartitionPoint}
use Rattle.std.proofs.lemmas.List.{length-drop, take_all}
use Rattle.std.proofs.lemmas.List.Elements.{All-filter}
use Rattle.std.proofs.lemmas.List.Sorted.{IsNonDecreasingBy-drop, IsNonDecreasingBy-from_sort_by_key, IsPartitionPoint-from_clause, IsPartitionedBy-leb, IsPartitionedBy-ltb}
use Rattle.chi_trace.specs.declared.operation.Operation.{Operation}
use Rattle.chi_trace.specs.AtPlaces.{is_in}
use Rattle.chi_trace.specs.Explains.{IsOperation}
use Rattle.chi_trace.specs.Granules.{granule_of}
use Rattle.chi_trace.proofs.Traced.{IsTrace-sorted}
use Rattle.chi_verdict.proofs.Apart.{between}
use Rattle.chi_verdict.proofs.earlier.own_trace.Goals as goal

pub returns-clause-moved : goal.returns-clause-moved
returns-clause-moved c =
    let g = c.args.granule in
    let sorted = c.args.sorted.now in
    let from = c.partition_point-from.result in
    let count = c.partition_point-count.result in
    let rest : take (length sorted - from) (drop from sorted) ≡ drop from sorted = take_all (length sorted - from) (drop from sorted) (omega (arith, length-drop from sorted)) in
    let rising = IsNonDecreasingBy-drop (λ (op : Operation). granule_of op) from sorted c.requires.sorted in
    let lower = IsPartitionPoint-from_clause (λ op. ltb (granule_of op) g) _ _ c.partition_point-from.ensures.partitioned
    (IsPartitionedBy-ltb (λ op. granule_of op) sorted g c.requires.sorted) (λ a r q k. search rules) in
    let upper = IsPartitionPoint-from_clause (λ op. leb (granule_of op) g) _ _ c.partition_point-count.ensures.partitioned
    (IsPartitionedBy-leb (λ op. granule_of op) (take (length sorted - from) (drop from sorted)) g
    (subst (IsNonDecreasingBy (λ (op : Operation). granule_of op)) (sym rest) rising)) (λ a r q k. search rules) in
    let at_count = subst (λ (l : List Operation). IsPartitionPoint (λ (op : Operation). leb (granule_of op) g ≡ true) (λ (op : Operation). leb (granule_of op) g ≡ false) l count) rest upper in
    let own : c.in_ok-own.own.items ≡ take count (drop from sorted) = c.in_ok-own.ensures.items ∙ ap (take count) rest in
    let bound = c.partition_point-count.ensures.bound in
    let kept = between g sorted from count lower at_count c.partition_point-from.ensures.bound (omega (arith, bound, ap length rest)) in
    subst (λ (l : List Operation). IsPermutation l c.sort_by_key.new.self.items) (own ∙ sym kept) c.sort_by_key.ensures.permutation

pub returns-clause-traced : goal.returns-clause-traced
returns-clause-traced c =
    let own = filter (is_in c.args.granule) c.args.sorted.now in
    IsTrace-sorted own c.sort_by_key.new.self.items (All-filter (is_in c.args.granule) IsOperation c.args.sorted.now c.requires.observed) (returns-clause-moved c)
    (IsNonDecreasingBy-from_sort_by_key (λ (o : Operation). o.start) _ c.in_ok-sort_by_key.ensures.sorted (λ a r q k. search rules))
