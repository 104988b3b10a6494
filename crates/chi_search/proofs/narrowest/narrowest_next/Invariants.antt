-- what was found is a place
use Rattle.std.proofs.Common.{◌-◌, ◌<◌, IfSome, length}
use Rattle.chi_search.proofs.narrowest.narrowest_next.Given as goal

abbrev pub invariant-loop-place : goal.invariant-loop-place
invariant-loop-place l = IfSome l.found (λ place. place < length l.problem.ops.now)

abbrev pub decreases-loop-place : goal.decreases-loop-place
decreases-loop-place l = length l.problem.ops.now - l.place
