-- the text so far
use Rattle.std.proofs.Common.{◌≡◌, ◌++◌, flat_map, take}
use Rattle.chi_cover.specs.Counts.{count_in}
use Rattle.chi_cover.specs.Texts.{op_rows}
use Rattle.chi_cover.proofs.table.add_all_results.Given as goal

abbrev pub invariant-loop-op : goal.invariant-loop-op
invariant-loop-op l = l.to.items ≡ l.initial.to.items ++ flat_map (op_rows (count_in l.covered)) (take l.op-index l.op-items)
