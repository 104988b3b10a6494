-- The load of a try.
use Rattle.chi_bookstore.proofs.Book.{book_looks}
use Rattle.chi_bookstore.proofs.steps.look.Goals as goal

pub load-requires : goal.load-requires
load-requires g c =
    let t = c.args.table.now.shared in
    (c.requires.own, c.requires.word, book_looks t.key t.table_id.slots c.args.seat.now.id c.args.seat.now.me c.args.granule c.requires.seat c.requires.granule)
