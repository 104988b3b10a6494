-- those so far
use Rattle.std.proofs.Common.{◌≡◌, ◌++◌, map, take}
use Rattle.chi_cover.specs.declared.bin.Bin.TheVariants.{Overlap}
use Rattle.chi_cover.proofs.traffic_group.add_later.Given as goal

abbrev pub invariant-loop-later : goal.invariant-loop-later
invariant-loop-later l = l.to.items ≡ l.initial.to.items ++ map (Overlap l.earlier) (take l.later-index l.later-items)
