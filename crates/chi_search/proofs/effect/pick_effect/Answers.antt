-- it writes what was sent, or leaves the word as it is
use Rattle.std.proofs.Common.{ap, ◌∙◌, slice_index, ◌%◌}
use Rattle.std.specs.Int.{bit_at}
use Rattle.chi_fields.specs.Access.{lane_of}
use Rattle.chi_search.proofs.Picked.{pick}
use Rattle.chi_search.proofs.Told.{byte_of}
use Rattle.chi_search.proofs.effect.pick_effect.Goals as goal

pub returns : goal.returns
returns c =
    pick c.args.op.now c.word_in.result c.operand_mask-mask.result c.operand_mask-mask.ensures.lawful c.requires c.operand_mask-mask.ensures.bits
    (λ k below. c.word_in.ensures k below ∙ ap (λ bs. bit_at (slice_index bs (lane_of (byte_of c.args.op.now k))) (k % 8)) c.lanes.ensures)
