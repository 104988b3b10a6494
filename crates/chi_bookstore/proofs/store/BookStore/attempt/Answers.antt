-- A request with no pause is served as with one.
use Rattle.std.proofs.Common.{rules}
use Rattle.chi_bookstore.proofs.store.BookStore.attempt.Goals as goal

pub returns-clause-served : goal.returns-clause-served
returns-clause-served g c = search rules steps 500000
