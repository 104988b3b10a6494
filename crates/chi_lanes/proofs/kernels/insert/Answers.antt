-- The mask clears the operand's lanes, and the shifted value fills them.
use Rattle.std.proofs.Common.{◌∙◌, ap}
use Rattle.chi_lanes.specs.Bytes.{little_bytes}
use Rattle.chi_lanes.proofs.Masks.{insert_number, insert_lanes}
use Rattle.chi_lanes.proofs.kernels.insert.Goals as goal

pub returns : goal.returns
returns c =
    rw c.lane_mask.ensures.number (ap (little_bytes 8)
    (insert_number c.args.word c.args.lane c.args.len c.args.value c.ranges.word.fits c.requires.room c.requires.fits)
    ∙ insert_lanes c.args.word c.args.lane c.args.len c.args.value c.requires.room c.requires.fits)
