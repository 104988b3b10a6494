-- those so far
use Rattle.std.proofs.Common.{◌≡◌, flat_map, take}
use Rattle.chi_cover.specs.Bins.{kind_bins}
use Rattle.chi_cover.proofs.group.operation_bins.Given as goal

abbrev pub invariant-loop-kind : goal.invariant-loop-kind
invariant-loop-kind l = l.bins.items ≡ flat_map kind_bins (take l.kind-index l.kind-items)
