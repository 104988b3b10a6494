-- places are looked at one after the other
use Rattle.std.proofs.Common.{◌≤◌}
use Rattle.chi_search.proofs.counting.is_miscounted.Given as goal

abbrev pub invariant-loop-place : goal.invariant-loop-place
invariant-loop-place l = l.place ≤ l.last
