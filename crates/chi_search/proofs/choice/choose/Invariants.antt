-- no order goes on by an operation before the place
use Rattle.std.proofs.Common.{◌-◌, length}
use Rattle.chi_search.specs.Positions.{position_of}
use Rattle.chi_search.proofs.Paths.{Tried}
use Rattle.chi_search.proofs.choice.choose.Given as goal

abbrev pub invariant-loop-place : goal.invariant-loop-place
invariant-loop-place l = Tried l.problem.ops.now l.problem.final_word l.dead (position_of l.state) l.place

abbrev pub decreases-loop-place : goal.decreases-loop-place
decreases-loop-place l = length l.problem.ops.now - l.place
