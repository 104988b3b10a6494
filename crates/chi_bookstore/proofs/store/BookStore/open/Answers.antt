-- The first seat of a store.
use Rattle.std.proofs.Common.{rules}
use Rattle.chi_rule.proofs.SeatLemmas.{seat_first}
use Rattle.chi_bookstore.proofs.store.BookStore.open.Goals as goal

pub returns-clause-own : goal.returns-clause-own
returns-clause-own g c = record {
  table = search rules;
  slots = search rules;
  opening = seat_first c.in-Ok.values c.all-numbers.result c.in-Ok-begin.table_seat.me.0 (search rules steps 3000000) (search rules);
}

pub returns-clause-first : goal.returns-clause-first
returns-clause-first g c = search rules steps 1500000
