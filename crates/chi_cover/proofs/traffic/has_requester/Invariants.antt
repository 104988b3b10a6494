-- none so far
use Rattle.std.proofs.Common.{◌≡◌, false, take}
use Rattle.chi_cover.specs.Traffic.{has_requester}
use Rattle.chi_cover.proofs.traffic.has_requester.Given as goal

abbrev pub invariant-loop-place : goal.invariant-loop-place
invariant-loop-place l = has_requester l.ops (take l.place-index l.places) l.src l.same ≡ false
