-- the bytes so far
use Rattle.std.proofs.Common.{◌≡◌, ◌++◌, take}
use Rattle.chi_excerpt.specs.Operands.{bytes_text}
use Rattle.chi_excerpt.proofs.operand.add_bytes.Given as goal

abbrev pub invariant-loop-byte : goal.invariant-loop-byte
invariant-loop-byte l = l.to.items ≡ l.initial.to.items ++ bytes_text (take l.byte-index l.bytes)
