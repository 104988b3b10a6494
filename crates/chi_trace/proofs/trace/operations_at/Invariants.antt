-- the first operations of those at the places
use Rattle.std.proofs.Common.{◌≡◌, take}
use Rattle.chi_trace.specs.AtPlaces.{at_places}
use Rattle.chi_trace.proofs.trace.operations_at.Given as goal

abbrev pub invariant-loop-place : goal.invariant-loop-place
invariant-loop-place l = l.own.items ≡ at_places l.ops (take l.place-index l.places)
