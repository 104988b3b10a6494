-- no place is past the last operation
use Rattle.std.proofs.Common.{◌-◌, ◌≤◌, length}
use Rattle.chi_search.proofs.at_once.most_next.Given as goal

abbrev pub invariant-loop-place : goal.invariant-loop-place
invariant-loop-place l = l.past ≤ length l.ops

abbrev pub invariant-loop-last : goal.invariant-loop-last
invariant-loop-last l = record { past_within : l.past ≤ length l.ops; from : l.past ≤ l.last; within : l.last ≤ length l.ops }

abbrev pub decreases-loop-last : goal.decreases-loop-last
decreases-loop-last l = length l.ops - l.last
