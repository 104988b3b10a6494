-- the bytes so far
use Rattle.std.proofs.Common.{◌≡◌, ◌++◌, flat_map, take}
use Rattle.chi_excerpt.specs.WrongBytes.{further_byte_text}
use Rattle.chi_excerpt.proofs.wrong_bytes.add_further.Given as goal

abbrev pub invariant-loop-byte : goal.invariant-loop-byte
invariant-loop-byte l = l.to.items ≡ l.initial.to.items ++ flat_map further_byte_text (take l.byte-index l.bytes)
