-- The set has each number so far.
use Rattle.std.proofs.Common.{◌≡◌, ◌<◌, ℕ, true}
use Rattle.chi_history.specs.NumberLists.{has}
use Rattle.chi_history.proofs.numbers.Numbers.has_all.Given as goal

abbrev pub invariant-numbers : goal.invariant-numbers
invariant-numbers l = (r : ℕ) → r < l.k → has l.self r ≡ true
