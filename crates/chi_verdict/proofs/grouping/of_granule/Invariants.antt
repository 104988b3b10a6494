-- what was told of the operations so far
use Rattle.chi_verdict.proofs.Filling.{IsFilled, is_own}
use Rattle.chi_verdict.proofs.grouping.of_granule.Given as goal

abbrev pub invariant-loop-place : goal.invariant-loop-place
invariant-loop-place l = IsFilled l.ops (is_own l.ops l.granule) l.place l.places.items
