-- the text so far
use Rattle.std.proofs.Common.{◌≡◌, ◌++◌, flat_map, take}
use Rattle.chi_cover.specs.Counts.{count_in}
use Rattle.chi_cover.specs.Texts.{enables_row}
use Rattle.chi_cover.proofs.table.add_all_enables.Given as goal

abbrev pub invariant-loop-len : goal.invariant-loop-len
invariant-loop-len l = l.to.items ≡ l.initial.to.items ++ flat_map (enables_row (count_in l.covered)) (take l.len-index l.len-items)
