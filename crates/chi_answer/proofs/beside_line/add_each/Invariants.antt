-- the addresses so far
use Rattle.std.proofs.Common.{◌≡◌, ◌++◌, flat_map, take}
use Rattle.chi_answer.specs.BesideLine.{address_word}
use Rattle.chi_answer.proofs.beside_line.add_each.Given as goal

abbrev pub invariant-loop-granule : goal.invariant-loop-granule
invariant-loop-granule l = l.to.items ≡ l.initial.to.items ++ flat_map address_word (take l.granule-index l.beside)
