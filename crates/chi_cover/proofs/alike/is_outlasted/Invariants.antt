-- none so far
use Rattle.std.proofs.Common.{◌≡◌, false, take}
use Rattle.std.specs.List.{list_any}
use Rattle.chi_trace.specs.Explains.{at}
use Rattle.chi_cover.specs.Open.{outlasts}
use Rattle.chi_cover.proofs.alike.is_outlasted.Given as goal

abbrev pub invariant-loop-place : goal.invariant-loop-place
invariant-loop-place l = list_any (λ j. outlasts (at l.ops j) l.op) (take l.place-index l.places) ≡ false
