-- the bytes so far
use Rattle.std.proofs.Common.{◌≡◌, ◌++◌}
use Rattle.chi_excerpt.specs.Operands.{enabled_text}
use Rattle.chi_excerpt.proofs.operand.add_enabled.Given as goal

abbrev pub invariant-loop-place : goal.invariant-loop-place
invariant-loop-place l = l.to.items ≡ l.initial.to.items ++ enabled_text l.lanes l.enables l.first l.place
