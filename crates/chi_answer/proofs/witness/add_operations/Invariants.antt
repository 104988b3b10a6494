-- the lines so far
use Rattle.std.proofs.Common.{◌≡◌, ◌++◌, take}
use Rattle.chi_trace.specs.Words.{memory_of}
use Rattle.chi_answer.specs.Witnesses.{operation_lines}
use Rattle.chi_answer.proofs.witness.add_operations.Given as goal

abbrev pub invariant-loop-at : goal.invariant-loop-at
invariant-loop-at l = l.to.items ≡ l.initial.to.items ++ operation_lines l.recorded (memory_of l.recorded.trace.opening) (take l.at l.order)
