-- A request is served by the tries at its seat.
use Rattle.std.proofs.Common.{rules}
use Rattle.chi_bookstore.proofs.store.BookStore.attempt_gated.Goals as goal

pub returns-clause-served : goal.returns-clause-served
returns-clause-served g c = search rules steps 1500000
