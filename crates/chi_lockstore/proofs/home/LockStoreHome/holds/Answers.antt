-- A number that a seat holds.
use Rattle.std.proofs.Common.{rules}
use Rattle.chi_lockstore.proofs.home.LockStoreHome.holds.Goals as goal

pub returns : goal.returns
returns g c = search rules steps 3000000
