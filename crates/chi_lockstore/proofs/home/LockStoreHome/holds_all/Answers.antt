-- A seat that holds every number.
use Rattle.std.proofs.Common.{rules}
use Rattle.chi_lockstore.proofs.home.LockStoreHome.holds_all.Goals as goal

pub returns : goal.returns
returns g c = search rules steps 3000000
