-- those so far
use Rattle.std.proofs.Common.{◌≡◌, filter, not, take}
use Rattle.chi_trace.specs.Explains.{at}
use Rattle.chi_cover.specs.Open.{outlasts}
use Rattle.chi_cover.proofs.kept.others.Given as goal

abbrev pub invariant-loop-place : goal.invariant-loop-place
invariant-loop-place l = l.others.items ≡ filter (λ j. not (outlasts l.op (at l.ops j))) (take l.place-index l.places)
