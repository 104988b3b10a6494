-- A credited request is served by the try that wins.
use Rattle.std.proofs.Common.{rules}
use Rattle.chi_bookstore.proofs.home.BookStoreHome.serve_credited.Goals as goal

pub returns-clause-credited : goal.returns-clause-credited
returns-clause-credited g c = search rules steps 3000000
