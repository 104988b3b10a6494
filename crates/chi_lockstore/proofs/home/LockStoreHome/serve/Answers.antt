-- A request is served by its exchange.
use Rattle.std.proofs.Common.{rules}
use Rattle.chi_lockstore.proofs.home.LockStoreHome.serve.Goals as goal

pub returns-clause-served : goal.returns-clause-served
returns-clause-served g c = search rules steps 3000000
