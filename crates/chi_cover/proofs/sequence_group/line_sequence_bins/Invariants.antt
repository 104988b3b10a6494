-- those so far
use Rattle.std.proofs.Common.{◌≡◌, flat_map, take}
use Rattle.chi_cover.specs.Bins.{line_after_bins}
use Rattle.chi_cover.proofs.sequence_group.line_sequence_bins.Given as goal

abbrev pub invariant-loop-earlier : goal.invariant-loop-earlier
invariant-loop-earlier l = l.bins.items ≡ flat_map line_after_bins (take l.earlier-index l.earlier-items)
