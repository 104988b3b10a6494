-- A seat that holds every number.
use Rattle.std.proofs.Common.{rules}
use Rattle.chi_bookstore.proofs.home.BookStoreHome.holds_all.Goals as goal

pub returns : goal.returns
returns g c = search rules steps 500000
