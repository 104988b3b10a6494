-- the operations at the first places
use Rattle.std.proofs.Common.{◌≡◌, take}
use Rattle.chi_trace.specs.AtPlaces.{at_places}
use Rattle.chi_verdict.specs.Groups.{places_of}
use Rattle.chi_verdict.proofs.granule.at_places.Given as goal

abbrev pub invariant-loop-placed : goal.invariant-loop-placed
invariant-loop-placed l = l.own.items ≡ at_places l.ops (places_of (take l.placed-index l.run))
