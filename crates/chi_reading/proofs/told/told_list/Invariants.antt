-- the map has the words so far
use Rattle.chi_reading.proofs.ToldSoFar.{IsSoFar}
use Rattle.chi_reading.proofs.told.told_list.Given as goal

abbrev pub invariant-loop-value : goal.invariant-loop-value
invariant-loop-value l = IsSoFar l.map l.list l.value-index
