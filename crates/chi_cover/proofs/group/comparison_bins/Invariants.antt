-- those so far
use Rattle.std.proofs.Common.{◌≡◌, flat_map, take}
use Rattle.chi_cover.specs.Bins.{half_bins}
use Rattle.chi_cover.proofs.group.comparison_bins.Given as goal

abbrev pub invariant-loop-len : goal.invariant-loop-len
invariant-loop-len l = l.bins.items ≡ flat_map half_bins (take l.len-index l.len-items)
