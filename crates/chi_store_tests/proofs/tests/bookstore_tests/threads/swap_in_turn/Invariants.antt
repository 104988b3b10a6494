-- The seat is of the home, and holds what it held.
use Rattle.std.proofs.Common.{◌≡◌}
use Rattle.chi_history.specs.NumberLists.{has}
use Rattle.chi_bookstore.specs.BookSeats.{IsSeatOf}
use Rattle.chi_store_tests.proofs.tests.bookstore_tests.threads.swap_in_turn.Given as goal

abbrev pub invariant-swaps : goal.invariant-swaps
invariant-swaps l = record {
  own : IsSeatOf l.home l.seat;
  held : has l.seat.numbers ≡ has l.initial.seat.numbers;
}
