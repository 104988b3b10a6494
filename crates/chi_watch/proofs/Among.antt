-- the operations that events tell, and the writes that stand for words, in the order of their starts
use Rattle.std.proofs.Common.{◌≡◌, ℕ, ◌<◌, ◌≤◌, nat_lt, Bool, true, false, cond, List, [], ◌∷◌, ◌++◌, All, Option, Some, None, IfSome, filter, flat_map, get_or, refl, sym, subst, arith}
use Rattle.std.specs.Prelude.{IsPermutation}
use Rattle.std.proofs.lemmas.Bool.{ltb-false, ltb-true}
use Rattle.std.proofs.lemmas.List.Elements.{All-cons, All-head, All-nil, All-tail, All-weaker}
use Rattle.std.proofs.lemmas.List.Sorted.{All-permutation, IsPermutation-append, IsPermutation-append_comm, IsPermutation-cons, IsPermutation-middle, IsPermutation-refl, IsPermutation-sym, IsPermutation-trans}
use Rattle.chi_events.specs.declared.event.Event.{Event}
use Rattle.chi_judge.proofs.Lists.{IsPermutation-filter}
use Rattle.chi_trace.specs.AtPlaces.{is_in}
use Rattle.chi_trace.specs.Explains.{IsOperation, IsTrace}
use Rattle.chi_trace.specs.declared.operation.Operation.{Operation}
use Rattle.chi_watch.specs.Judged.{all_among, among, judged, judged_part, operations_and_writes}
use Rattle.chi_watch.specs.Watches.{told_of}
use Rattle.chi_watch.specs.WordsTold.{WordAt, words_told, write_at, write_of, writes_told}
use Rattle.chi_events.specs.Operations.{operations}
use Rattle.chi_watch.proofs.JudgedParts.{judged_own, judged_permutation}
use Rattle.chi_watch.proofs.Lists.{All-filter_map}
use Rattle.chi_watch.proofs.Writes.{IsWriteOf, written}

one_moved : (op : Operation) (ops : List Operation) → IsPermutation (among op ops) (op ∷ ops)
unfolding among
one_moved op [] = IsPermutation-refl (op ∷ [])
one_moved op (other ∷ ops) = by_test (nat_lt op.start other.start) (one_moved op ops)
  where
    by_test : (b : Bool) → IsPermutation (among op ops) (op ∷ ops) → IsPermutation (cond b (op ∷ other ∷ ops) (other ∷ among op ops)) (op ∷ other ∷ ops)
    by_test true rest = IsPermutation-refl (op ∷ other ∷ ops)
    by_test false rest =
        IsPermutation-trans (other ∷ among op ops) (other ∷ op ∷ ops) (op ∷ other ∷ ops) (IsPermutation-cons other (among op ops) (op ∷ ops) rest) (IsPermutation-middle (other ∷ []) op ops)

pub all_moved : (more ops : List Operation) → IsPermutation (all_among more ops) (more ++ ops)
unfolding all_among
all_moved [] ops = IsPermutation-refl ops
all_moved (op ∷ more) ops =
    IsPermutation-trans (among op (all_among more ops)) (op ∷ all_among more ops) (op ∷ (more ++ ops)) (one_moved op (all_among more ops))
    (IsPermutation-cons op (all_among more ops) (more ++ ops) (all_moved more ops))

-- they are a trace
one_traced : (op : Operation) (ops : List Operation) → IsOperation op → IsTrace ops → IsTrace (among op ops)
unfolding among IsTrace
one_traced op [] is trace = (is, All-nil (λ (o : Operation). op.start ≤ o.start), tt)
one_traced op (other ∷ ops) is trace = by_test (nat_lt op.start other.start) refl (one_traced op ops is trace.2)
  where
    by_test : (b : Bool) → nat_lt op.start other.start ≡ b → IsTrace (among op ops) → IsTrace (cond b (op ∷ other ∷ ops) (other ∷ among op ops))
    by_test true before rest =
        let early : op.start < other.start = ltb-true op.start other.start before in (
          is,
          All-cons (λ (o : Operation). op.start ≤ o.start) other ops (omega (arith, early))
              (All-weaker (λ (o : Operation). other.start ≤ o.start) (λ (o : Operation). op.start ≤ o.start) (λ o later. omega (arith, early, later)) ops trace.1),
          trace,
        )
    by_test false not_before rest = (
      trace.0,
      All-permutation (λ (o : Operation). other.start ≤ o.start) (op ∷ ops) (among op ops) (IsPermutation-sym (among op ops) (op ∷ ops) (one_moved op ops))
          (All-cons (λ (o : Operation). other.start ≤ o.start) op ops (ltb-false op.start other.start not_before) trace.1),
      rest,
    )

pub all_traced : (more ops : List Operation) → All IsOperation more → IsTrace ops → IsTrace (all_among more ops)
unfolding all_among
all_traced [] ops are trace = trace
all_traced (op ∷ more) ops are trace = one_traced op (all_among more ops) (All-head IsOperation op more are) (all_traced more ops (All-tail IsOperation op more are) trace)

-- the writes are operations
pub writes_are : (events : List Event) → All IsOperation (writes_told events)
writes_are events = All-filter_map write_of IsOperation (words_told events) (λ i d below. each (get_or (words_told events) i d))
  where
    of_write : (time g : ℕ) (o : Option Operation) → IfSome o (IsWriteOf time g) → IfSome o IsOperation
    of_write time g None is = tt
    of_write time g (Some op) is = is.is

    each : (w : WordAt) → IfSome (write_of w) IsOperation
    each w = by_test w.is_opening
      where
        by_test : (b : Bool) → IfSome (cond b None (write_at w.time w.told)) IsOperation
        by_test true = tt
        by_test false = of_write w.time w.told.granule (write_at w.time w.told) (written w.time w.told)

-- what is judged of a granule, where these are the operations in another order
pub judged_moved : (events : List Event) (g : ℕ) (ops : List Operation) → IsPermutation (operations events) ops
    → IsPermutation (filter (is_in g) (judged events)) (flat_map (judged_part events) (told_of events ops g))
judged_moved events g ops moved =
    subst (λ l. IsPermutation l (flat_map (judged_part events) (told_of events ops g))) (sym (judged_own events g (operations_and_writes events)))
    (judged_permutation events (filter (is_in g) (operations_and_writes events)) (told_of events ops g)
    (IsPermutation-filter (is_in g) (operations_and_writes events) (ops ++ writes_told events)
    (IsPermutation-trans (operations_and_writes events) (writes_told events ++ operations events) (ops ++ writes_told events) (all_moved (writes_told events) (operations events))
    (IsPermutation-trans (writes_told events ++ operations events) (operations events ++ writes_told events) (ops ++ writes_told events) (IsPermutation-append_comm (writes_told events) (operations events))
    (IsPermutation-append (operations events) ops (writes_told events) (writes_told events) moved (IsPermutation-refl (writes_told events)))))))
