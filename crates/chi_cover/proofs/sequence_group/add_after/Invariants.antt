-- those so far
use Rattle.std.proofs.Common.{◌≡◌, ◌++◌, map, take}
use Rattle.chi_cover.specs.declared.bin.Bin.TheVariants.{Sequence}
use Rattle.chi_cover.proofs.sequence_group.add_after.Given as goal

abbrev pub invariant-loop-later : goal.invariant-loop-later
invariant-loop-later l = l.to.items ≡ l.initial.to.items ++ map (Sequence l.earlier) (take l.later-index l.later-items)
