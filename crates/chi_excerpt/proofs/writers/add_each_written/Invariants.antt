-- the bytes so far
use Rattle.std.proofs.Common.{◌≡◌, ◌++◌, flat_map, take}
use Rattle.chi_excerpt.specs.Writers.{written_text}
use Rattle.chi_excerpt.proofs.writers.add_each_written.Given as goal

abbrev pub invariant-loop-byte : goal.invariant-loop-byte
invariant-loop-byte l = l.to.items ≡ l.initial.to.items ++ flat_map written_text (take l.byte-index l.bytes)
