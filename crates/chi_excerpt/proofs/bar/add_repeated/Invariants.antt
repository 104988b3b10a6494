-- the signs so far
use Rattle.std.proofs.Common.{◌≡◌, ◌++◌, replicate}
use Rattle.chi_excerpt.proofs.bar.add_repeated.Given as goal

abbrev pub invariant-loop : goal.invariant-loop
invariant-loop l = l.to.items ≡ l.initial.to.items ++ replicate l.counter l.sign
