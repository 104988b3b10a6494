-- all operations that were told, sorted
use Rattle.std.proofs.Common.{rules, ◌∙◌}
use Rattle.std.proofs.lemmas.List.Sorted.{IsNonDecreasingBy-from_sort_by_key}
use Rattle.chi_trace.specs.declared.operation.Operation.{Operation}
use Rattle.chi_watch_text.proofs.AllRead.{all_in_order}
use Rattle.chi_watch_text.proofs.operations.in_order.Goals as goal

pub returns : goal.returns
returns c events tells =
    all_in_order c.operations_are_told.ensures events c.args.ops.items c.add_open.new.ops.items c.sort_by_key.new.self.items c.args.outstanding.now tells
    (rw (c.deref.ensures.value ∙ c.in_ok-requests.ensures.requests) at c.in_ok-add_open.ensures) c.in_ok-sort_by_key.ensures.permutation
    (IsNonDecreasingBy-from_sort_by_key (λ (op : Operation). op.start) _ c.in_ok-sort_by_key.ensures.sorted (λ a r q k. search rules))
