-- The region of the opening.
use Rattle.std.proofs.Common.{rules}
use Rattle.chi_lockstore.proofs.home.LockStoreHome.region.Goals as goal

pub returns : goal.returns
returns g c = search rules steps 3000000
