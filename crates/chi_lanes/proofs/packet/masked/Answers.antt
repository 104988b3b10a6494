-- Each byte of the result is an or of two ands of bytes.
use Rattle.chi_lanes.proofs.MaskedBytes.{masked_kept, masked_written}
use Rattle.chi_lanes.proofs.packet.masked.Goals as goal

pub returns-clause-kept : goal.returns-clause-kept
returns-clause-kept c k inside none = masked_kept c.args.word c.args.incoming c.args.mask k c.ranges.mask.fits inside none

pub returns-clause-written : goal.returns-clause-written
returns-clause-written c k inside all = masked_written c.args.word c.args.incoming c.args.mask k c.ranges.mask.fits inside all
