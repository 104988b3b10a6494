-- The seat that two were made.
use Rattle.std.proofs.Common.{◌∙◌}
use Rattle.chi_rule.proofs.SeatLemmas.{seat_joined}
use Rattle.chi_bookstore.proofs.home.BookStoreHome.rejoin.Goals as goal

pub returns-clause-own : goal.returns-clause-own
returns-clause-own g c = record {
  table = c.take_in.ensures.own.0 ∙ c.requires.own.table;
  slots = c.take_in.ensures.own.1;
  opening = seat_joined c.args.self.now.values c.args.seat.now.numbers c.args.other.numbers c.merge.new.self c.args.seat.now.table_seat.me.0
      c.args.other.table_seat.me.0 c.take_in.new.seat.me.0 c.requires.own.opening c.requires.other_own.opening c.merge.ensures c.take_in.ensures.settled;
}
