-- The numbers so far are those of the set below the next.
use Rattle.std.proofs.Common.{◌≡◌, ◌≤◌}
use Rattle.arrayvec.specs.ArrayVec.{array_vec_len}
use Rattle.chi_history.specs.NumberSets.{union}
use Rattle.chi_history.specs.NumberLists.{has, numbers_in}
use Rattle.chi_history.proofs.numbers.Numbers.merge.Given as goal

abbrev pub invariant-numbers : goal.invariant-numbers
invariant-numbers l = record {
  room : array_vec_len l.items ≤ l.k;
  listed : l.items.items ≡ numbers_in (union (has l.self) (has l.other)) l.k;
}
