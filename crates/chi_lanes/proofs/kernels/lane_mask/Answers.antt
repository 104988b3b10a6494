-- The mask is a run of ones moved up, and its bytes follow from its number.
use Rattle.std.proofs.Common.{◌∙◌, ap}
use Rattle.chi_lanes.specs.Bytes.{little_bytes}
use Rattle.chi_lanes.proofs.Masks.{mask_number, mask_lanes}
use Rattle.chi_lanes.proofs.kernels.lane_mask.Goals as goal

pub returns-clause-number : goal.returns-clause-number
returns-clause-number c = mask_number c.args.lane c.args.len c.requires.room

pub returns-clause-lanes : goal.returns-clause-lanes
returns-clause-lanes c =
    ap (little_bytes 8) (mask_number c.args.lane c.args.len c.requires.room) ∙ mask_lanes c.args.lane c.args.len c.requires.room
