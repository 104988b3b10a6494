-- The requesters of the opening.
use Rattle.std.proofs.Common.{rules}
use Rattle.chi_lockstore.proofs.home.LockStoreHome.requesters.Goals as goal

pub returns : goal.returns
returns g c = search rules steps 3000000
