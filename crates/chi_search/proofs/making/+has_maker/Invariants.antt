-- none of the operations from the place on makes these bits
use Rattle.std.proofs.Common.{ℕ, ◌≤◌, length}
use Rattle.chi_search.specs.Makers.{CannotMake}
use Rattle.chi_search.specs.Positions.{position_of}
use Rattle.chi_search.proofs.making.+has_maker.Given as goal

abbrev pub decreases-has_maker : goal.decreases-has_maker
decreases-has_maker l = l.depth

abbrev pub invariant-loop-place : goal.invariant-loop-place
invariant-loop-place l = record {
  within : l.place ≤ length l.problem.ops.now;
  tried : (i : ℕ) → l.place ≤ i → CannotMake l.mask l.problem.ops.now (position_of l.state) l.later l.word l.bits i;
}

abbrev pub decreases-loop-place : goal.decreases-loop-place
decreases-loop-place l = l.place
