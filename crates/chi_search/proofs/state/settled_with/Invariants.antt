-- the operations from the first on that are settled
use Rattle.std.proofs.Common.{◌≡◌, ℕ, ◌+◌, ◌-◌, ◌<◌, ◌≤◌, ◌==◌, ◌||◌, true}
use Rattle.chi_search.specs.Positions.{has_bit, words_of}
use Rattle.chi_search.proofs.state.settled_with.Given as goal

abbrev pub invariant-loop-by : goal.invariant-loop-by
invariant-loop-by l = record {
  within : l.state.first + l.by ≤ l.count;
  settled : (k : ℕ) → k < l.by → (has_bit (words_of l.state.settled) k || (l.state.first + k == l.place)) ≡ true;
}

abbrev pub decreases-loop-by : goal.decreases-loop-by
decreases-loop-by l = l.count - (l.state.first + l.by)
