-- the operations before the place were tried
use Rattle.std.proofs.Common.{◌-◌, length}
use Rattle.chi_search.specs.Positions.{position_of}
use Rattle.chi_search.specs.Within.{AllDeadWithin, AreTriedWithin}
use Rattle.chi_search.proofs.part.choose_within.Given as goal

abbrev pub invariant-loop-place : goal.invariant-loop-place
invariant-loop-place l = AllDeadWithin l.part.mask l.problem.ops.now l.problem.final_word l.part.dead → AreTriedWithin l.part.mask l.problem.ops.now l.problem.final_word (position_of l.state) l.place

abbrev pub decreases-loop-place : goal.decreases-loop-place
decreases-loop-place l = length l.problem.ops.now - l.place
