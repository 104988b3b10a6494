-- the operations so far
use Rattle.std.proofs.Common.{flat_map}
use Rattle.std.specs.List.{range_with_len}
use Rattle.chi_cover.specs.Added.{AreAdded}
use Rattle.chi_cover.specs.Counts.{bins_at}
use Rattle.chi_cover.specs.Last.{AreLastPlaces}
use Rattle.chi_cover.specs.Open.{AreKept}
use Rattle.chi_cover.proofs.measured.add_operations.Given as goal

abbrev pub invariant-loop-place : goal.invariant-loop-place
invariant-loop-place l = record {
  added : AreAdded (flat_map (bins_at l.ops) (range_with_len 0 l.place)) l.initial.counts l.counts;
  kept : AreKept l.ops l.place l.kept;
  last : AreLastPlaces l.ops l.place l.last;
}
