-- the places in the trace of the first places in the granule
use Rattle.std.proofs.Common.{◌≡◌, map, slice_index, take}
use Rattle.chi_verdict.specs.Groups.{places_of}
use Rattle.chi_verdict.proofs.granule.search_granule.Given as goal

abbrev pub invariant-loop-place : goal.invariant-loop-place
invariant-loop-place g l = l.order.items ≡ map (slice_index (places_of l.group.run.now)) (take l.place-index l.place-items)
