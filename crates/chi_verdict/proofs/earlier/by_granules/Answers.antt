-- the sort by the key
use Rattle.std.proofs.Common.{rules}
use Rattle.std.proofs.lemmas.List.Sorted.{IsNonDecreasingBy-from_sort_by_key}
use Rattle.chi_trace.specs.Granules.{granule_of}
use Rattle.chi_verdict.proofs.earlier.by_granules.Goals as goal

pub returns-clause-sorted : goal.returns-clause-sorted
returns-clause-sorted c = IsNonDecreasingBy-from_sort_by_key (λ op. granule_of op) _ c.in_ok-sort_by_key.ensures.sorted (λ a r q k. search rules)
