-- the text so far
use Rattle.std.proofs.Common.{◌≡◌, ◌++◌, flat_map, take}
use Rattle.chi_cover.specs.Counts.{count_in}
use Rattle.chi_cover.specs.Texts.{kind_rows}
use Rattle.chi_cover.proofs.table.add_all_kinds.Given as goal

abbrev pub invariant-loop-kind : goal.invariant-loop-kind
invariant-loop-kind l = l.to.items ≡ l.initial.to.items ++ flat_map (kind_rows (count_in l.covered)) (take l.kind-index l.kind-items)
