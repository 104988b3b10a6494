-- the pattern or the name gets shorter
use Rattle.std.proofs.Common.{◌+◌, length}
use Rattle.chi_cover.proofs.pattern.+fits.Given as goal

abbrev pub decreases-fits : goal.decreases-fits
decreases-fits l = length l.pattern.now + length l.name.now
