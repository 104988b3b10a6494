-- places are looked at one after the other
use Rattle.std.proofs.Common.{◌-◌, length}
use Rattle.chi_search.proofs.counting.first_sum.Given as goal

abbrev pub decreases-loop-place : goal.decreases-loop-place
decreases-loop-place l = length l.ops - l.place
