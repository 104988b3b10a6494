-- those so far
use Rattle.std.proofs.Common.{◌≡◌, flat_map, take}
use Rattle.chi_cover.specs.Bins.{enables_of}
use Rattle.chi_cover.proofs.group.enables_bins.Given as goal

abbrev pub invariant-loop-len : goal.invariant-loop-len
invariant-loop-len l = l.bins.items ≡ flat_map enables_of (take l.len-index l.len-items)
