-- the operations of a trace
use Rattle.std.proofs.Common.{◌≡◌, ℕ, zero, suc, ◌+◌, ◌^◌, ◌<◌, ◌≤◌, List, [], ◌∷◌, get_or, length, sym, subst, ◌∙◌, arith}
use Rattle.std.proofs.lemmas.List.{get_or_default}
use Rattle.std.proofs.lemmas.Bool.{lt-ltb}
use Rattle.chi_trace.specs.declared.operation.Operation.{Operation}
use Rattle.chi_trace.specs.Explains.{IsOperation, IsTrace, at, nothing}
use Rattle.chi_trace.proofs.Orders.{observed_at}

pub observed : (trace : List Operation) (i : ℕ) → IsTrace trace → i < length trace → IsOperation (at trace i)
observed trace i is below = observed_at trace i is (lt-ltb i (length trace) below)

-- they stand in the order of their starts
pub started : (trace : List Operation) (j i : ℕ) → IsTrace trace → j ≤ i → i < length trace → (at trace j).start ≤ (at trace i).start
unfolding IsTrace
started [] j i is before below = absurd (omega (arith, below))
started (op ∷ trace) zero zero is before below = omega arith
started (op ∷ trace) zero (suc i) is before below = let inside : i < length trace = omega arith in is.1 i nothing inside
started (op ∷ trace) (suc j) zero is before below = absurd (omega (arith, before))
started (op ∷ trace) (suc j) (suc i) is before below = let inside : i < length trace = omega arith in let earlier : j ≤ i = omega arith in started trace j i is.2 earlier inside

-- what is read at a place is the operation there
pub read_at : (trace : List Operation) (i : ℕ) (op : Operation) → i < length trace → op ≡ get_or trace i op → op ≡ at trace i
read_at trace i op below is = is ∙ get_or_default trace i op nothing below

pub within_at : (trace : List Operation) (i : ℕ) (op : Operation) → IsTrace trace → i < length trace → op ≡ at trace i → op.access.addr + op.access.len ≤ 2 ^ 52
within_at trace i op is below same = subst (λ (o : Operation). o.access.addr + o.access.len ≤ 2 ^ 52) (sym same) (observed trace i is below).within
