-- The half's eight bytes are copied, and read as one number.
use Rattle.std.proofs.Common.{arith, ◌∙◌}
use Rattle.chi_lanes.proofs.StdBytes.{lanes_read}
use Rattle.chi_lanes.proofs.packet.packet_half.Goals as goal
use Rattle.chi_lanes.proofs.packet.packet_half.Goals.{then-upper, else-upper}

pub returns : goal.returns
returns c =
    elim c.if-upper.branch [
      | then-upper w ↦
          rw w.if-upper.true
          (lanes_read c.args.lanes.now c.if-upper.bytes 8 c.from_le_bytes.result (omega arith) c.fits-lanes
          (w.bytes-is ∙ w.copy_from_slice.ensures.after) c.from_le_bytes.ensures)
      | else-upper w ↦
          rw w.if-upper.false
          (lanes_read c.args.lanes.now c.if-upper.bytes 0 c.from_le_bytes.result (omega arith) c.fits-lanes
          (w.bytes-is ∙ w.copy_from_slice-else-upper.ensures.after) c.from_le_bytes.ensures)
    ]
