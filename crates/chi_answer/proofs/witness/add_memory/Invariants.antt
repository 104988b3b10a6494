-- the lines so far
use Rattle.std.proofs.Common.{◌≡◌, ◌++◌, flat_map, take}
use Rattle.chi_answer.specs.Witnesses.{memory_line}
use Rattle.chi_answer.proofs.witness.add_memory.Given as goal

abbrev pub invariant-loop-told : goal.invariant-loop-told
invariant-loop-told l = l.to.items ≡ l.initial.to.items ++ flat_map memory_line (take l.told-index l.words)
