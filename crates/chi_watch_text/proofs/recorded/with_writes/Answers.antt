-- they are sorted by their starts
use Rattle.std.proofs.Common.{rules}
use Rattle.std.proofs.lemmas.List.Sorted.{IsNonDecreasingBy-from_sort_by_key}
use Rattle.chi_trace.specs.declared.operation.Operation.{Operation}
use Rattle.chi_watch_text.proofs.recorded.with_writes.Goals as goal

pub returns-clause-in_order : goal.returns-clause-in_order
returns-clause-in_order c = IsNonDecreasingBy-from_sort_by_key (λ (op : Operation). op.start) _ c.in_ok-sort_by_key.ensures.sorted (λ a r q k. search rules)
