-- The seat is of the home, and holds what it held.
use Rattle.std.proofs.Common.{◌≡◌}
use Rattle.chi_history.specs.NumberLists.{has}
use Rattle.chi_bookstore.specs.BookSeats.{IsSeatOf}
use Rattle.chi_store_tests.proofs.tests.bookstore_tests.threads.add_often.Given as goal

abbrev pub invariant-loop : goal.invariant-loop
invariant-loop l = record {
  own : IsSeatOf l.home l.seat;
  held : has l.seat.numbers ≡ has l.initial.seat.numbers;
}
