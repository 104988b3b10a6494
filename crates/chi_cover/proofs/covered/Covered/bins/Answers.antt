-- so many bins there are
use Rattle.std.proofs.Common.{sym}
use Rattle.chi_cover.proofs.Numbered.{bin_count}
use Rattle.chi_cover.proofs.covered.Covered.bins.Goals as goal

pub returns : goal.returns
returns c = sym bin_count
