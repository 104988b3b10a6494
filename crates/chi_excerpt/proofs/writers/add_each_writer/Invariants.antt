-- the lines so far, with those of the operations that are left
use Rattle.std.proofs.Common.{◌≡◌, ◌++◌, drop}
use Rattle.chi_excerpt.specs.Writers.{writer_lines}
use Rattle.chi_excerpt.proofs.writers.add_each_writer.Given as goal

abbrev pub invariant-loop-place : goal.invariant-loop-place
invariant-loop-place l = l.to.items ++ writer_lines l.label l.bytes (drop l.place l.order) ≡ l.initial.to.items ++ writer_lines l.label l.bytes l.order
