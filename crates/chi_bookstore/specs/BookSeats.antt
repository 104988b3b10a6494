-- which seats are of a store
use Rattle.std.specs.Prelude.{◌≡◌, []}
use Rattle.chi_rule.specs.Seats.{IsSeat}
use Rattle.chi_bookstore.specs.declared.seat.BookSeat.{BookSeat}
use Rattle.chi_bookstore.specs.declared.store.BookStore.{BookStore}

-- it is of the store's table, and of its opening
pub record IsSeatOf {A : Type 0} (home : BookStore A) (seat : BookSeat) : Type 0 where
  pub table : seat.table_seat.table_id ≡ home.table.shared.table_id
  pub slots : seat.table_seat.me.1 ≡ []
  pub opening : IsSeat home.values seat.numbers seat.table_seat.me.0
