-- those so far
use Rattle.std.proofs.Common.{◌≡◌, filter, take}
use Rattle.chi_trace.specs.Explains.{at}
use Rattle.chi_cover.specs.Traffic.{have_common_byte}
use Rattle.chi_cover.proofs.traffic.with_common_byte.Given as goal

abbrev pub invariant-loop-place : goal.invariant-loop-place
invariant-loop-place l = l.overlapping.items ≡ filter (λ j. have_common_byte (at l.ops j).access l.op.access) (take l.place-index l.places)
