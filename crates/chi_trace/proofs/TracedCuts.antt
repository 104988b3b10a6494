-- some operations of a trace, and what had happened by a time, are a trace
use Rattle.std.proofs.Common.{ℕ, ◌≤◌, nat_le, Bool, true, false, cond, List, [], ◌∷◌, All, filter, map, None}
use Rattle.std.proofs.lemmas.List.Elements.{All-filter, All-map, All-weaker}
use Rattle.chi_trace.specs.declared.operation.Operation.{Operation}
use Rattle.chi_trace.specs.Cuts.{cut, has_started, operation_at}
use Rattle.chi_trace.specs.Explains.{IsOperation, IsTrace}
use Rattle.chi_trace.proofs.OperationAt.{known_start}

pub IsTrace-filter : (p : Operation → Bool) (ops : List Operation) → IsTrace ops → IsTrace (filter p ops)
unfolding IsTrace
IsTrace-filter p [] is = tt
IsTrace-filter p (op ∷ ops) is = by_test (p op) (IsTrace-filter p ops is.2)
  where
    by_test : (b : Bool) → IsTrace (filter p ops) → IsTrace (cond b (op ∷ filter p ops) (filter p ops))
    by_test true rest = (is.0, All-filter p (λ later. op.start ≤ later.start) ops is.1, rest)
    by_test false rest = rest

known_observed : (time : ℕ) (op : Operation) → IsOperation op → IsOperation (operation_at time op)
known_observed time op is = by_test (nat_le op.end time)
  where
    by_test : (b : Bool) → IsOperation (cond b op (record op { reply = None }))
    by_test true = is
    by_test false = record { lawful = is.lawful; within = is.within; lasting = is.lasting }

IsTrace-known : (time : ℕ) (ops : List Operation) → IsTrace ops → IsTrace (map (operation_at time) ops)
unfolding IsTrace
IsTrace-known time [] is = tt
IsTrace-known time (op ∷ ops) is = (known_observed time op is.0, no_earlier, IsTrace-known time ops is.2)
  where
    no_earlier : All (λ later. (operation_at time op).start ≤ later.start) (map (operation_at time) ops)
    no_earlier = All-map (λ later. (operation_at time op).start ≤ later.start) (operation_at time) ops
        (All-weaker (λ later. op.start ≤ later.start) (λ later. (operation_at time op).start ≤ (operation_at time later).start)
        (λ later le. rw (known_start time op, known_start time later) le) ops is.1)

pub IsTrace-cut : (time : ℕ) (ops : List Operation) → IsTrace ops → IsTrace (cut time ops)
IsTrace-cut time ops is = IsTrace-known time (filter (has_started time) ops) (IsTrace-filter (has_started time) ops is)
