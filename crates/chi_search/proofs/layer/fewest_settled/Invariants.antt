-- the place is one of the set
use Rattle.std.proofs.Common.{◌<◌, length}
use Rattle.chi_search.specs.StateSets.{positions}
use Rattle.chi_search.proofs.layer.fewest_settled.Given as goal

abbrev pub invariant-loop-place : goal.invariant-loop-place
invariant-loop-place l = 0 < length (positions l.layer) → l.least < length (positions l.layer)
