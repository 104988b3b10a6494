-- The region of the opening.
use Rattle.std.proofs.Common.{rules}
use Rattle.chi_bookstore.proofs.home.BookStoreHome.region.Goals as goal

pub returns : goal.returns
returns g c = search rules steps 500000
