-- the operations are those that were found, and stand in the order of their starts
use Rattle.std.proofs.Common.{IsPermutation, sym, ap, subst, ◌∙◌, rules}
use Rattle.std.proofs.lemmas.List.Sorted.{IsNonDecreasingBy-from_sort_by_key}
use Rattle.chi_trace.specs.Traces.{TraceValue}
use Rattle.chi_trace.specs.Words.{find_word}
use Rattle.chi_trace.specs.declared.operation.Operation.{Operation}
use Rattle.chi_trace.proofs.Traced.{IsTrace-sorted}
use Rattle.chi_reading.specs.Requests.{Completed}
use Rattle.chi_reading.proofs.recorded.in_order.Goals as goal

pub unreachable-requires : goal.unreachable-requires
unreachable-requires c =
    c.new.ensures.none c.in-None.is
    (IsTrace-sorted _ _ c.found.invariant c.in_ok-sort_by_key.ensures.permutation
    (IsNonDecreasingBy-from_sort_by_key (λ (op : Operation). op.start) _ c.in_ok-sort_by_key.ensures.sorted (λ a r q k. search rules)))

pub returns : goal.returns
returns c =
    let operations = ap (λ (f : Completed). f.operations) c.found.view_is in
    let sorted = subst (λ ops. IsPermutation ops c.sort_by_key.new.self.items) operations c.in_ok-sort_by_key.ensures.permutation in
    λ t is. record {
      region = is.region;
      opening = λ g. ap (λ (r : TraceValue). find_word r.opening g) c.in-Some.ensures.some ∙ is.opening g;
      final_words = is.final_words;
      operations = subst (IsPermutation c.args.found.operations) (sym (ap (λ (r : TraceValue). r.operations) c.in-Some.ensures.some)) sorted;
      refusals = ap (λ (f : Completed). f.refusals) c.found.view_is;
    }
