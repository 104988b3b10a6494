-- from place to place
use Rattle.std.proofs.Common.{◌≡◌, ℕ, ◌+◌, ◌<◌, ◌≤◌, length, false, MatchOption, None, Some, slice_index_or, sym, subst, ap, ◌∙◌, arith, inl, inr, List, Option}
use Rattle.std.proofs.lemmas.Bool.{cases_lt}
use Rattle.std.proofs.lemmas.List.{get_or_default}
use Rattle.chi_fields.specs.Access.{Access, IsLawful}
use Rattle.chi_trace.specs.declared.operation.Operation.{Operation}
use Rattle.chi_trace.specs.Explains.{at, nothing}
use Rattle.chi_search.specs.declared.counting.Span.{Span}
use Rattle.chi_search.specs.Counters.{IsSameOperand, IsSpan, added, counts, down_by, up_by}
use Rattle.chi_search.specs.Effects.{no_effect}
use Rattle.chi_search.specs.Positions.{Position, position_of}
use Rattle.chi_search.specs.Within.{KeepsWithin}
use Rattle.chi_search.proofs.Reach.{keeps_bits}
use Rattle.chi_search.proofs.Spans.{late, none_counts, nothing_counts, one_counts, settled}
use Rattle.chi_search.proofs.counting.span_of.Goals as goal
use Rattle.chi_search.proofs.counting.span_of.Goals.{then-is_left+in-Some+else-not-is_same_operand+in_ok-span-in-Some, then-is_left+in-None+else-problem-place-ne0, else-is_left}

pub loop-place-init : goal.loop-place-init
loop-place-init c = record {
  within = c.next-place.ensures.within;
  starts = c.next-place.ensures.starts;
  span = nothing_counts c.args.problem.now.ops.now (position_of c.args.state.now) c.args.until c.args.counter.now c.args.bits c.next-place.result
      c.next-place.ensures.late;
}

pub loop-place-preserved : goal.loop-place-preserved
loop-place-preserved c = record {
  within = c.next-place-in-loop-place.ensures.within;
  starts = c.next-place-in-loop-place.ensures.starts;
  span = none_counts ops p c.args.until o c.args.bits (place + 1) further c.if-is_left.span on
      (λ i from below. late ops p c.args.until o c.args.bits i (c.next-place-in-loop-place.ensures.late i from below))
      (elim c.if-is_left.branch [
        | then-is_left+in-Some+else-not-is_same_operand+in_ok-span-in-Some w ↦
            let adds : Some w.in-Some.number ≡ added (at ops place) =
            sym w.in-Some.is ∙ w.added_by.ensures.added ∙ ap added (here w.index-ops-place.result w.index-ops-place.is) in
            let lawful : IsLawful (at ops place).access =
            subst (λ (x : Operation). IsLawful x.access) (here w.index-ops-place.result w.index-ops-place.is) w.added_by.ensures.lawful in
            let same : IsSameOperand (at ops place).access o =
            subst (λ (x : Operation). IsSameOperand x.access o) (get_or_default ops place w.index-ops-place-in-Some.result nothing c.loop-place-test.true)
            (w.is_same_operand.ensures w.if-not-is_same_operand.false) in
            one_counts ops p c.args.until o c.args.bits place c.loop-place.span c.if-is_left.span (sym c.is_left.ensures ∙ w.if-is_left.true) early
            (subst (Adds (at ops place)) adds (lawful, same))
            (ap (λ (s : Span). s.up) w.span-is ∙ w.in_ok-span-in-Some.ensures.up ∙ up w.len.result w.in-Some.number w.len.ensures.value adds)
            (ap (λ (s : Span). s.down) w.span-is ∙ w.in_ok-span-in-Some.ensures.down ∙ down w.len.result w.in-Some.number w.len.ensures.value adds)
            c.loop-place.invariant.span
        | then-is_left+in-None+else-problem-place-ne0 w ↦
            let none : None ≡ added (at ops place) =
            sym w.in-None.is ∙ w.added_by.ensures.added ∙ ap added (here w.index-ops-place.result w.index-ops-place.is) in
            one_counts ops p c.args.until o c.args.bits place c.loop-place.span c.if-is_left.span (sym c.is_left.ensures ∙ w.if-is_left.true) early
            (subst (Adds (at ops place)) none
            (keeps_bits (at ops place) (slice_index_or c.args.problem.now.effects.now place no_effect) c.args.bits
            (c.requires.problem.effects place (omega (arith, c.requires.each, c.loop-place-test.true))) c.ranges.bits.fits w.if-problem-place-ne0.false))
            (ap (λ (s : Span). s.up) w.span-is ∙ no_further c.loop-place.span.up ∙ ap (λ m. c.loop-place.span.up + up_by o.len m) none)
            (ap (λ (s : Span). s.down) w.span-is ∙ no_further c.loop-place.span.down ∙ ap (λ m. c.loop-place.span.down + down_by o.len m) none)
            c.loop-place.invariant.span
        | else-is_left w ↦
            subst (λ (s : Span). IsSpan ops p c.args.until o c.args.bits (place + 1) s) (sym w.span-is)
            (none_counts ops p c.args.until o c.args.bits place (place + 1) c.loop-place.span (omega arith)
            (λ i from below. subst (λ j. counts ops p c.args.until j ≡ false) (omega (arith, from, below)) (settled ops p c.args.until o c.args.bits place (sym c.is_left.ensures ∙ w.if-is_left.false)))
            c.loop-place.invariant.span)
      ]);
}
  where
    ops : List Operation
    ops = c.args.problem.now.ops.now

    p : Position
    p = position_of c.args.state.now

    o : Access
    o = c.args.counter.now

    place : ℕ
    place = c.loop-place.place

    further : ℕ
    further = c.next-place-in-loop-place.result

    early : (at ops place).start ≤ c.args.until
    early = c.loop-place.invariant.starts c.loop-place-test.true

    on : place + 1 ≤ further
    on = elim (cases_lt further (length ops)) [
      | inl before ↦ c.next-place-in-loop-place.ensures.from before
      | inr past ↦ omega (arith, past, c.loop-place-test.true)
    ]

    Adds : Operation → Option ℕ → Type 0
    Adds op m = MatchOption m (KeepsWithin c.args.bits op) (λ n. IsLawful op.access × IsSameOperand op.access o)

    here : (x : Operation) → x ≡ slice_index_or ops place x → x ≡ at ops place
    here x is = is ∙ get_or_default ops place x nothing c.loop-place-test.true

    no_further : (n : ℕ) → n ≡ n + 0
    no_further n = omega arith

    up : (len n : ℕ) → len ≡ o.len → Some n ≡ added (at ops place)
        → c.loop-place.span.up + up_by len (Some n) ≡ c.loop-place.span.up + up_by o.len (added (at ops place))
    up len n same adds = ap (λ l. c.loop-place.span.up + up_by l (Some n)) same ∙ ap (λ m. c.loop-place.span.up + up_by o.len m) adds

    down : (len n : ℕ) → len ≡ o.len → Some n ≡ added (at ops place)
        → c.loop-place.span.down + down_by len (Some n) ≡ c.loop-place.span.down + down_by o.len (added (at ops place))
    down len n same adds = ap (λ l. c.loop-place.span.down + down_by l (Some n)) same ∙ ap (λ m. c.loop-place.span.down + down_by o.len m) adds

pub returns : goal.returns
returns c =
    subst (λ n. IsSpan c.args.problem.now.ops.now (position_of c.args.state.now) c.args.until c.args.counter.now c.args.bits n c.loop-place.span)
    (omega (arith, c.loop-place.invariant.within, c.loop-place-test.false)) c.loop-place.invariant.span
