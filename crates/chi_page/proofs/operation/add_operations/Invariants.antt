-- the texts so far
use Rattle.std.proofs.Common.{◌≡◌, ◌++◌}
use Rattle.chi_page.specs.Listed.{comma_line, listed}
use Rattle.chi_page.specs.Operations.{operation_at}
use Rattle.chi_page.proofs.operation.add_operations.Given as goal

abbrev pub invariant-loop-at : goal.invariant-loop-at
invariant-loop-at l = l.to.items ≡ l.initial.to.items ++ listed comma_line (operation_at l.recorded) l.at
