-- an operation that is left must find a number that is beyond reach
use Rattle.std.proofs.Common.{◌≡◌, ℕ, ◌<◌, ◌≤◌, length, slice_index_or, ap, ◌∙◌, ◌-◌, arith}
use Rattle.std.proofs.lemmas.List.{get_or_default}
use Rattle.chi_fields.specs.Access.{Access}
use Rattle.chi_trace.specs.declared.operation.Operation.{Operation}
use Rattle.chi_trace.specs.Explains.{at, nothing}
use Rattle.chi_search.specs.Effects.{no_effect}
use Rattle.chi_search.specs.Positions.{position_of}
use Rattle.chi_search.proofs.Counts.{miscounted}
use Rattle.chi_search.proofs.Reach.{has_part}
use Rattle.chi_search.proofs.counting.is_miscounted.Goals as goal

pub returns-then-finds_beyond : goal.returns-then-finds_beyond
returns-then-finds_beyond c _ =
    let ops = c.args.problem.now.ops.now in
    let y = c.loop-place.place in
    let e = slice_index_or c.args.problem.now.effects.now y no_effect in
    let last = c.min-last.result in
    let most : last ≤ length ops = omega (arith, c.min-last.ensures) in
    let within : y < length ops = omega (arith, c.loop-place-test.true, most) in
    let end : ℕ = (slice_index_or ops (last - 1) c.index-ops-last.result).end in
    let before : last - 1 < length ops = omega (arith, c.loop-place-test.true, most) in
    let until : slice_index_or ops (last - 1) c.index-ops-last.result ≡ at ops (last - 1) =
    get_or_default ops (last - 1) c.index-ops-last.result nothing before in
    let sorted : (at ops y).end ≤ (at ops (last - 1)).end = c.requires.problem.sorted.0 y (last - 1) (omega (arith, c.loop-place-test.true)) before in
    let ends : (at ops y).end ≤ end = omega (arith, sorted, ap (λ (x : Operation). x.end) until) in
    miscounted ops (position_of c.args.state.now) end c.index-ops-first.result.access c.operand_mask-bits.result c.args.mask
    c.in-Some-span_of.span c.operand_mask-bits.ensures.lawful (λ k inside. (c.operand_mask-bits.ensures.bits k).1 inside)
    (has_part c.args.mask c.operand_mask-bits.result c.if-mask-bits.false) c.ranges.mask.fits (c.finds_beyond.ensures.word c.if-finds_beyond.true) c.in-Some-span_of.ensures
    c.args.problem.now.final_word y e (c.requires.problem.effects y (omega (arith, within, c.requires.each))) (c.finds_beyond.ensures.below c.if-finds_beyond.true) (c.finds_beyond.ensures.found c.if-finds_beyond.true)
    (c.finds_beyond.ensures.left c.if-finds_beyond.true) (c.finds_beyond.ensures.answered c.if-finds_beyond.true) ends (c.finds_beyond.ensures.beyond c.if-finds_beyond.true)
