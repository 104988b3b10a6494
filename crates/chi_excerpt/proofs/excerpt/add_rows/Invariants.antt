-- the lines so far
use Rattle.std.proofs.Common.{◌≡◌, ◌++◌, false, flat_map, take}
use Rattle.chi_excerpt.specs.Texts.{row_text}
use Rattle.chi_excerpt.proofs.excerpt.add_rows.Given as goal

abbrev pub invariant-loop-row : goal.invariant-loop-row
invariant-loop-row l = l.to.items ≡ l.initial.to.items ++ flat_map (row_text l.label false l.line.0 l.line.1 l.widths) (take l.row-index l.rows)
