-- A credited request is served by its exchange.
use Rattle.std.proofs.Common.{rules}
use Rattle.chi_lockstore.proofs.home.LockStoreHome.serve_credited.Goals as goal

pub returns-clause-credited : goal.returns-clause-credited
returns-clause-credited g c = search rules steps 3000000
