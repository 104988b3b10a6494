-- one byte more
use Rattle.std.proofs.Common.{◌∙◌, ap, sym, append_assoc, ◌++◌, ◌+◌}
use Rattle.chi_excerpt.specs.Operands.{enabled_byte, enabled_text}
use Rattle.chi_excerpt.proofs.Enabled.{enabled_more}
use Rattle.chi_excerpt.proofs.operand.add_enabled.Goals as goal

pub loop-place-preserved : goal.loop-place-preserved
loop-place-preserved c =
    let lanes = c.lanes-lanes.result in
    let enables = c.enables-enables.result in
    let first = c.lane-first.result in
    c.in_ok-add_enabled_byte.ensures
    ∙ ap (λ l. l ++ enabled_byte lanes enables (first + c.loop-place.place)) c.loop-place.invariant
    ∙ append_assoc c.args.to.now.items (enabled_text lanes enables first c.loop-place.place) (enabled_byte lanes enables (first + c.loop-place.place))
    ∙ ap (λ l. c.args.to.now.items ++ l) (sym (enabled_more lanes enables first c.loop-place.place))
