-- one lane more
use Rattle.std.proofs.Common.{◌≡◌, ◌==◌, ◌≤◌, ℕ, Bool, true, false, sym, ◌∙◌, arith}
use Rattle.std.proofs.lemmas.List.FromFn.{length-range_with_len}
use Rattle.std.proofs.lemmas.List.Sums.{count_by-le-length}
use Rattle.std.specs.Int.{bit_at}
use Rattle.std.specs.List.{range_with_len}
use Rattle.chi_cover.proofs.Lists.{count_more}
use Rattle.chi_cover.proofs.operation.enabled_lanes.Goals.{then-is_enabled, else-is_enabled}
use Rattle.chi_cover.proofs.operation.enabled_lanes.Goals as goal

pub overflow_add-count : goal.overflow_add-count
overflow_add-count c =
    let so_far = c.loop-place.invariant in
    let most = count_by-le-length (λ (lane : ℕ). bit_at c.enables-enables.result lane == 1) (range_with_len c.lane-first.result c.loop-place.place) in
    let long = length-range_with_len c.lane-first.result c.loop-place.place in
    let bound : c.loop-place.count ≤ c.loop-place.place = omega (arith, so_far, most, long) in
    omega arith

pub loop-place-preserved : goal.loop-place-preserved
loop-place-preserved c =
    let p : ℕ → Bool = λ lane. bit_at c.enables-enables.result lane == 1 in
    let first = c.lane-first.result in
    let place = c.loop-place.place in
    elim c.if-is_enabled.branch [
      | then-is_enabled w ↦
          count_more p first place c.loop-place.count c.if-is_enabled.count true (sym w.if-is_enabled.true ∙ c.is_enabled.ensures) c.loop-place.invariant w.count-is
      | else-is_enabled w ↦
          count_more p first place c.loop-place.count c.if-is_enabled.count false (sym w.if-is_enabled.false ∙ c.is_enabled.ensures) c.loop-place.invariant (omega (arith, w.count-is))
    ]

pub returns : goal.returns
returns c =
    let whole : c.loop-place.place ≡ c.args.access.now.len = omega (arith, c.len-place-end.ensures.value) in
    rw (c.enables-enables.ensures.value, c.lane-first.ensures, whole) at c.loop-place.invariant
