-- what was told of the operations so far
use Rattle.std.proofs.Common.{true}
use Rattle.chi_verdict.proofs.Filling.{IsFilled}
use Rattle.chi_verdict.proofs.grouping.by_granule.Given as goal

abbrev pub invariant-loop-place : goal.invariant-loop-place
invariant-loop-place l = IsFilled l.ops (λ i. true) l.place l.places.items
