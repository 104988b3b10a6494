-- A number that a seat holds.
use Rattle.std.proofs.Common.{rules}
use Rattle.chi_bookstore.proofs.home.BookStoreHome.holds.Goals as goal

pub returns : goal.returns
returns g c = search rules steps 500000
