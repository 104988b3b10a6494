-- the parts so far
use Rattle.std.proofs.Common.{◌≡◌, ◌++◌, flat_map, take}
use Rattle.chi_text.specs.Part.{part_text}
use Rattle.chi_text.proofs.part.add_parts.Given as goal

abbrev pub invariant-loop-part : goal.invariant-loop-part
invariant-loop-part l = l.to.items ≡ l.initial.to.items ++ flat_map part_text (take l.part-index l.parts)
