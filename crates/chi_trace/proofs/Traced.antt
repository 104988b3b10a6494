-- operations of a trace, place by place
use Rattle.std.proofs.Common.{◌≡◌, ℕ, zero, suc, ◌<◌, ◌≤◌, List, [], ◌∷◌, All, length, get_or, sym, ◌∙◌, arith}
use Rattle.std.specs.List.Sorted.{IsNonDecreasingBy, IsPermutation}
use Rattle.std.proofs.lemmas.List.{get_or_default}
use Rattle.std.proofs.lemmas.List.Elements.{All-from_get_or}
use Rattle.std.proofs.lemmas.List.Sorted.{All-permutation}
use Rattle.std.proofs.lemmas.Bool.{lt-ltb}
use Rattle.chi_trace.specs.declared.operation.Operation.{Operation}
use Rattle.chi_trace.specs.Explains.{IsOperation, IsTrace, at, nothing}
use Rattle.chi_trace.proofs.Orders.{observed_at}

-- each of the first operations starts no later than those after it
abbrev pub AreByStart : List Operation → ℕ → Type 0
AreByStart ops high = (i j : ℕ) → i ≤ j → j < high → (at ops i).start ≤ (at ops j).start

pub IsTrace-from_places : (ops : List Operation) → ((j : ℕ) → j < length ops → IsOperation (at ops j)) → AreByStart ops (length ops) → IsTrace ops
unfolding IsTrace
IsTrace-from_places [] observed by_start = tt
IsTrace-from_places (op ∷ ops) observed by_start = (
  observed 0 (omega arith),
  All-from_get_or (λ later. op.start ≤ later.start) ops nothing (λ j under. by_start 0 (suc j) (omega arith) (omega arith)),
  IsTrace-from_places ops (λ j under. observed (suc j) (omega arith)) (λ i j le under. by_start (suc i) (suc j) (omega arith) (omega arith)),
)

pub AreByStart-from_trace : (ops : List Operation) → IsTrace ops → AreByStart ops (length ops)
unfolding IsTrace
AreByStart-from_trace [] is i j le under = absurd (omega arith)
AreByStart-from_trace (op ∷ ops) is zero zero le under = omega arith
AreByStart-from_trace (op ∷ ops) is zero (suc j) le under = let rest : j < length ops = omega arith in is.1 j nothing rest
AreByStart-from_trace (op ∷ ops) is (suc i) zero le under = absurd (omega arith)
AreByStart-from_trace (op ∷ ops) is (suc i) (suc j) le under =
    let rest : j < length ops = omega arith in
    let before : i ≤ j = omega arith in
    AreByStart-from_trace ops is.2 i j before rest

-- operations of which each can be observed are a trace once they stand in the order of their starts
pub IsTrace-sorted : (found ops : List Operation) → All IsOperation found → IsPermutation found ops → IsNonDecreasingBy (λ (op : Operation). op.start) ops → IsTrace ops
IsTrace-sorted found ops each same up =
    IsTrace-from_places ops (λ j under. All-permutation IsOperation found ops same each j nothing under) (λ i j le under. up i j nothing le under)

-- what is always true of an operation is true of each
pub observed_below : (ops : List Operation) (i : ℕ) → IsTrace ops → i < length ops → IsOperation (at ops i)
observed_below ops i is under = observed_at ops i is (lt-ltb i (length ops) under)

pub all_observed : (ops : List Operation) → IsTrace ops → All IsOperation ops
all_observed ops is = All-from_get_or IsOperation ops nothing (λ i under. observed_below ops i is under)

-- the operation that was read
pub at_read : (ops : List Operation) (i : ℕ) (op : Operation) → i < length ops → op ≡ get_or ops i op → at ops i ≡ op
at_read ops i op below is = get_or_default ops i nothing op below ∙ sym is
