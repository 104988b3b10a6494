-- The words so far are those of the memory.
use Rattle.std.proofs.Common.{◌≡◌, ◌<◌, ℕ, slice_index}
use Rattle.crossbeam_utils.specs.Seq.{cell_view}
use Rattle.chi_lanes.specs.Memory.{word}
use Rattle.chi_history.specs.History.{end}
use Rattle.chi_lockstore.proofs.home.LockStoreHome.snapshot.Given as goal

abbrev pub invariant-loop-granule : goal.invariant-loop-granule
invariant-loop-granule g l = (k : ℕ) → k < l.granule → slice_index l.words k ≡ word (end l.self.values (cell_view l.seat.pass).seen) l.self.values.region k
