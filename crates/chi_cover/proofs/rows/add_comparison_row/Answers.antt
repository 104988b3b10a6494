-- the counts of the row
use Rattle.chi_cover.specs.Texts.{comparison_row}
use Rattle.chi_cover.proofs.rows.add_comparison_row.Goals as goal

pub returns : goal.returns
unfolding comparison_row
returns c = rw (c.from.ensures, c.comparisons.ensures, c.comparisons-2.ensures, c.comparisons-3.ensures, c.comparisons-4.ensures) at c.add_parts.ensures
