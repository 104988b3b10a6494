-- those so far
use Rattle.std.proofs.Common.{◌≡◌, ◌++◌, map, take}
use Rattle.chi_cover.specs.declared.bin.Bin.TheVariants.{ChangedSign}
use Rattle.chi_cover.proofs.group.add_signs.Given as goal

abbrev pub invariant-loop-len : goal.invariant-loop-len
invariant-loop-len l = l.to.items ≡ l.initial.to.items ++ map (ChangedSign l.op) (take l.len-index l.len-items)
