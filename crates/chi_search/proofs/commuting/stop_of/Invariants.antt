-- the operation can be moved before each other one before the place
use Rattle.std.proofs.Common.{ℕ, ◌-◌, ◌<◌, length}
use Rattle.chi_search.specs.Commuting.{Passes}
use Rattle.chi_search.specs.Positions.{position_of}
use Rattle.chi_search.proofs.commuting.stop_of.Given as goal

abbrev pub invariant-loop-other : goal.invariant-loop-other
invariant-loop-other l = (j : ℕ) → j < l.other → Passes l.ops (position_of l.state) l.place j

abbrev pub decreases-loop-other : goal.decreases-loop-other
decreases-loop-other l = length l.ops - l.other
