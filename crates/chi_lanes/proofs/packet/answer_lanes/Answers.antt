-- The shifted value fills one half of a packet of zeros.
use Rattle.std.proofs.Common.{rules, arith, ◌+◌, ◌%◌, ◌≤◌, ◌∙◌}
use Rattle.chi_lanes.proofs.AnswerLanes.{answer_is}
use Rattle.chi_lanes.proofs.StdBytes.{to_le_bytes_is}
use Rattle.chi_lanes.proofs.packet.answer_lanes.Goals as goal

pub returns-then-lane-ge8 : goal.returns-then-lane-ge8
returns-then-lane-ge8 c =
    let room : c.args.lane % 8 + c.args.len ≤ 8 = search rules in
    let written = c.copy_from_slice.ensures.after ∙ (c.to_le_bytes.ensures ∙ to_le_bytes_is _) in
    answer_is 8 c.args.lane c.args.len c.args.value c.copy_from_slice.new.self (omega arith) (omega arith) room c.requires.fits written

pub returns-else-lane-ge8 : goal.returns-else-lane-ge8
returns-else-lane-ge8 c =
    let room : c.args.lane % 8 + c.args.len ≤ 8 = search rules in
    let written = c.copy_from_slice-else-lane-ge8.ensures.after ∙ (c.to_le_bytes-else-lane-ge8.ensures ∙ to_le_bytes_is _) in
    answer_is 0 c.args.lane c.args.len c.args.value c.copy_from_slice-else-lane-ge8.new.self (omega arith) (omega arith) room c.requires.fits written
