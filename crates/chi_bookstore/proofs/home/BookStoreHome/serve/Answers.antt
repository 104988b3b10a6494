-- The home serves as the store does.
use Rattle.std.proofs.Common.{rules}
use Rattle.chi_bookstore.proofs.home.BookStoreHome.serve.Goals as goal

pub returns-clause-served : goal.returns-clause-served
returns-clause-served g c = search rules steps 500000
