-- no more than there are
use Rattle.std.proofs.Common.{◌≤◌, length}
use Rattle.chi_search.proofs.at_once.ended_count.Given as goal

abbrev pub invariant-loop-count : goal.invariant-loop-count
invariant-loop-count l = l.count ≤ length l.ops

abbrev pub decreases-loop-count : goal.decreases-loop-count
decreases-loop-count l = l.count
