-- an operation that fails a test
use Rattle.std.proofs.Common.{◌≡◌, ℕ, ◌<◌, List, length, get_or, sym, ap, ◌∙◌, arith}
use Rattle.std.proofs.lemmas.Bool.{false≢true}
use Rattle.std.proofs.lemmas.List.{get_or_default}
use Rattle.chi_trace.specs.declared.operation.Operation.{Operation}
use Rattle.chi_trace.specs.Explains.{at, nothing}
use Rattle.chi_trace.proofs.Rising.{next_no_less}
use Rattle.chi_search.proofs.searchable.are_searchable.Goals as goal
use Rattle.chi_search.proofs.searchable.are_searchable.Goals.{then-op-before-via-then-op-before, then-op-before-via-else-op-before+then-op, then-op-before-via-else-op-before+else-op+then-addr-length}

-- the operation that was read
at_read : (ops : List Operation) (i : ℕ) (op : Operation) → i < length ops → op ≡ get_or ops i op → at ops i ≡ op
at_read ops i op below is = get_or_default ops i nothing op below ∙ sym is

pub returns-then-op-before : goal.returns-then-op-before
returns-then-op-before c = (
  λ no. absurd (false≢true no),
  λ can.
      let ops = c.args.ops.now in
      let i = c.loop-op.op-index in
      let read : at ops i ≡ c.op-item.result = at_read ops i c.op-item.result (omega arith) c.op-item.is in
      let end : (at ops i).end ≡ c.op-item.result.end = ap (λ op. op.end) read in
      absurd (elim c.then-op-before.branch [
        | then-op-before-via-then-op-before w ↦
            omega (arith, next_no_less (λ (j : ℕ). (at ops j).end) (length ops) c.loop-op.before i c.loop-op.invariant.none c.loop-op.invariant.last can.0.0 (omega arith))
        | then-op-before-via-else-op-before+then-op w ↦ omega (arith, can.0.1 i nothing (omega arith), ap (λ op. op.start) read)
        | then-op-before-via-else-op-before+else-op+then-addr-length w ↦
            omega (arith, can.1 i (omega arith), ap (λ op. op.access.addr) read, ap (λ op. op.access.len) read)
      ]),
)
