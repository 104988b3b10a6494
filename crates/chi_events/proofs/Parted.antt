-- operations are those that had ended and those that are still open
use Rattle.std.proofs.Common.{◌≡◌, ℕ, Bool, true, false, cond, not, ◌||◌, if◌then◌else◌, List, [], ◌∷◌, ◌++◌, map, Option, Some, None, refl, sym, ap, ◌∙◌, subst}
use Rattle.std.specs.Prelude.{IsPermutation, filter, filter_map, is_some, option_map}
use Rattle.std.proofs.lemmas.List.Sorted.{IsPermutation-append, IsPermutation-append_comm, IsPermutation-refl, IsPermutation-trans}
use Rattle.chi_trace.specs.declared.operation.Operation.{Operation}
use Rattle.chi_events.specs.declared.event.Event.{Event}
use Rattle.chi_events.specs.Operations.{AccessAt, access_told, ended_at, is_dropped, is_outstanding, operation_of, operations}
use Rattle.chi_events.specs.Outstanding.{OutstandingValue, Tells, open_of, open_operation}
use Rattle.chi_events.specs.RequestEvents.{RequestEvents, each_request}
use Rattle.chi_events.proofs.Observable.{operation_as}
use Rattle.chi_events.proofs.Lists.{taken_of_both}

-- a request that is outstanding is the same operation as what is kept of it
same_operation : (t : RequestEvents) → is_outstanding t ≡ true → operation_of t ≡ open_operation (open_of t)
same_operation t out = by_case (is_dropped t) (ended_at t) (access_told t) out
  where
    by_case : (dropped : Bool) (end : Option ℕ) (o : Option AccessAt) → not (dropped || is_some end) ≡ true
        → (if dropped then None else option_map (operation_as t end) o) ≡ open_operation (record (open_of t) { access = option_map (λ a. a.access) o })
    by_case true end o out = cc
    by_case false (Some n) o out = cc
    by_case false None None out = refl
    by_case false None (Some a) out = refl

same_operations : (ts : List RequestEvents) → filter_map operation_of (filter is_outstanding ts) ≡ filter_map open_operation (map open_of (filter is_outstanding ts))
same_operations [] = refl
same_operations (t ∷ ts) = by_test (is_outstanding t) (same_operation t) (same_operations ts)
  where
    outs : List RequestEvents
    outs = filter is_outstanding ts

    by_test : (b : Bool) → (b ≡ true → operation_of t ≡ open_operation (open_of t)) → filter_map operation_of outs ≡ filter_map open_operation (map open_of outs)
        → filter_map operation_of (cond b (t ∷ outs) outs) ≡ filter_map open_operation (map open_of (cond b (t ∷ outs) outs))
    by_test true same rest = rw (same refl, rest) refl
    by_test false same rest = rest

pub operations_parted : (events : List Event) (ended : List Operation) (o : OutstandingValue) → Tells events ended o
    → IsPermutation (operations events) (ended ++ filter_map open_operation o.requests)
operations_parted events ended o tells =
    IsPermutation-trans _ _ _ (taken_of_both operation_of is_outstanding (each_request events))
    (IsPermutation-trans _ _ _ (IsPermutation-append_comm opens ends)
    (IsPermutation-append ends ended opens (filter_map open_operation o.requests) tells.ends
    (subst (IsPermutation opens) same (IsPermutation-refl opens))))
  where
    opens : List Operation
    opens = filter_map operation_of (filter is_outstanding (each_request events))

    ends : List Operation
    ends = filter_map operation_of (filter (λ t. not (is_outstanding t)) (each_request events))

    same : opens ≡ filter_map open_operation o.requests
    same = same_operations (each_request events) ∙ ap (filter_map open_operation) (sym tells.requests)
