-- the text so far
use Rattle.std.proofs.Common.{◌≡◌, ◌++◌, flat_map, take}
use Rattle.chi_cover.specs.Counts.{count_in}
use Rattle.chi_cover.specs.Texts.{result_row}
use Rattle.chi_cover.proofs.rows.add_op_rows.Given as goal

abbrev pub invariant-loop-len : goal.invariant-loop-len
invariant-loop-len l = l.to.items ≡ l.initial.to.items ++ flat_map (result_row (count_in l.covered) l.op) (take l.len-index l.len-items)
