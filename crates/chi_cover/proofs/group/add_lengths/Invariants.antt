-- those so far
use Rattle.std.proofs.Common.{◌≡◌, ◌++◌, flat_map, take}
use Rattle.chi_cover.specs.Bins.{lane_bins}
use Rattle.chi_cover.proofs.group.add_lengths.Given as goal

abbrev pub invariant-loop-len : goal.invariant-loop-len
invariant-loop-len l = l.to.items ≡ l.initial.to.items ++ flat_map (lane_bins l.kind l.endian) (take l.len-index l.len-items)
