-- one byte more
use Rattle.std.proofs.Common.{true, false, append-nil, ap, sym, ◌∙◌}
use Rattle.chi_excerpt.specs.WrongBytes.{byte_in, is_wrong}
use Rattle.chi_excerpt.proofs.WrongByteLemmas.{byte_more}
use Rattle.chi_excerpt.proofs.wrong_bytes.wrong_in.Goals.{then-is_wrong+in_ok-push, else-is_wrong}
use Rattle.chi_excerpt.proofs.wrong_bytes.wrong_in.Goals as goal

pub loop-place-preserved : goal.loop-place-preserved
loop-place-preserved c =
    let first = c.addr-first.result in
    let at = c.loop-place.place in
    let legal = c.args.legal.now in
    let lanes = c.args.lanes.now in
    elim c.if-is_wrong.branch [
      | then-is_wrong+in_ok-push w ↦
          byte_more (is_wrong legal) (byte_in lanes) first at c.byte_in-byte.result true c.loop-place.wrong.items c.if-is_wrong.wrong.items c.byte_in-byte.ensures
          (sym w.if-is_wrong.true ∙ c.is_wrong.ensures) c.loop-place.invariant (ap (λ v. v.items) w.wrong-is ∙ w.in_ok-push.ensures.items)
      | else-is_wrong w ↦
          byte_more (is_wrong legal) (byte_in lanes) first at c.byte_in-byte.result false c.loop-place.wrong.items c.if-is_wrong.wrong.items c.byte_in-byte.ensures
          (sym w.if-is_wrong.false ∙ c.is_wrong.ensures) c.loop-place.invariant (ap (λ v. v.items) w.wrong-is ∙ sym (append-nil c.loop-place.wrong.items))
    ]
