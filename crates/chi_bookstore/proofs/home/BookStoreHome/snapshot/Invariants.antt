-- The words so far are those of the memory, and the seat knows what it knew.
use Rattle.std.proofs.Common.{◌≡◌, ◌<◌, ℕ, slice_index}
use Rattle.chi_lanes.specs.Memory.{word}
use Rattle.chi_history.specs.History.{end}
use Rattle.chi_bookstore.proofs.home.BookStoreHome.snapshot.Given as goal

abbrev pub invariant-loop-granule : goal.invariant-loop-granule
invariant-loop-granule g l = record {
  table : l.seat.table_seat.table_id ≡ l.initial.seat.table_seat.table_id;
  same : l.seat.table_seat.me ≡ l.initial.seat.table_seat.me;
  numbers : l.seat.numbers ≡ l.initial.seat.numbers;
  shown : (k : ℕ) → k < l.granule → slice_index l.words k ≡ word (end l.self.values l.initial.seat.table_seat.me.0.seen) l.self.values.region k;
}
