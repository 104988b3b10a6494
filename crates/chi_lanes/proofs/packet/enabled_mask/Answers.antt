-- The word operations give the mask at each of the 256 values.
use Rattle.chi_lanes.proofs.Enables.{slice_index-spread}
use Rattle.chi_lanes.proofs.packet.enabled_mask.Goals as goal

pub returns : goal.returns
returns c k inside = rw c.from.ensures (slice_index-spread c.args.enables k c.ranges.enables.fits inside)
