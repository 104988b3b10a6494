-- operations that fail a test are not those of a trace, and others are
use Rattle.std.proofs.Common.{◌≡◌, ℕ, ◌<◌, length, refl, ap, arith}
use Rattle.std.proofs.lemmas.Bool.{false≢true}
use Rattle.chi_trace.specs.Explains.{IsOperation, at}
use Rattle.chi_trace.proofs.Rising.{next_no_less}
use Rattle.chi_trace.proofs.Traced.{AreByStart-from_trace, IsTrace-from_places, at_read, observed_below}
use Rattle.chi_trace.proofs.trace.are_traced.Goals as goal
use Rattle.chi_trace.proofs.trace.are_traced.Goals.{then-op-before-via-then-op-before, then-op-before-via-else-op-before+then-op, then-op-before-via-else-op-before+else-op+then-addr-length}

pub returns-then-op-before : goal.returns-then-op-before
returns-then-op-before c = (
  λ no. absurd (false≢true no),
  λ is.
      let ops = c.args.ops.now in
      let i = c.loop-op.op-index in
      let inside : i < length ops = omega arith in
      let observed : IsOperation (at ops i) = observed_below ops i is inside in
      let read : at ops i ≡ c.op-item.result = at_read ops i c.op-item.result inside c.op-item.is in
      let start : (at ops i).start ≡ c.op-item.result.start = ap (λ op. op.start) read in
      absurd (elim c.then-op-before.branch [
        | then-op-before-via-then-op-before w ↦
            omega (arith, next_no_less (λ (j : ℕ). (at ops j).start) (length ops) c.loop-op.before i c.loop-op.invariant.none c.loop-op.invariant.last (AreByStart-from_trace ops is) inside)
        | then-op-before-via-else-op-before+then-op w ↦ omega (arith, observed.lasting, ap (λ op. op.end) read)
        | then-op-before-via-else-op-before+else-op+then-addr-length w ↦
            omega (arith, observed.within, ap (λ op. op.access.addr) read, ap (λ op. op.access.len) read)
      ]),
)

pub returns : goal.returns
returns c =
    let ops = c.args.ops.now in
    let i = c.loop-op.op-index in
    let all : i ≡ length ops = omega arith in (
      λ yes. IsTrace-from_places ops
          (λ j under. record {
            lawful = c.loop-op.invariant.lawful j (omega arith);
            within = c.loop-op.invariant.within j (omega arith);
            lasting = c.loop-op.invariant.lasting j (omega arith);
          })
          (λ i j le under. c.loop-op.invariant.sorted i j le (omega arith)),
      λ is. refl,
    )
