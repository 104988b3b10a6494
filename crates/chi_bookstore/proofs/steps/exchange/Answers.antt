-- The exchange.
use Rattle.std.proofs.Common.{refl}
use Rattle.chi_bookstore.proofs.Book.{book_exchanges}
use Rattle.chi_bookstore.proofs.steps.exchange.Goals as goal

pub compare_exchange_with-requires : goal.compare_exchange_with-requires
compare_exchange_with-requires g c =
    let t = c.args.table.now.shared in
    let r = c.requires in (
      r.own,
      r.word,
      book_exchanges t.key t.table_id.slots c.args.seat.now.id c.args.seat.now.me c.args.granule c.args.first c.args.next c.args.purpose.now r.seat r.granule r.holds c.access_is_lawful.ensures r.fits r.applies,
    )

pub returns-clause-exchanged : goal.returns-clause-exchanged
returns-clause-exchanged g c = c.compare_exchange_with.ensures.2.0 c.args.purpose.now refl
