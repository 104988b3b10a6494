-- those so far
use Rattle.std.proofs.Common.{◌≡◌, take}
use Rattle.chi_cover.specs.Open.{ended_after}
use Rattle.chi_cover.proofs.kept.places_from.Given as goal

abbrev pub invariant-loop-place : goal.invariant-loop-place
invariant-loop-place l = l.left.items ≡ ended_after l.ops l.time (take l.place-index l.places)
