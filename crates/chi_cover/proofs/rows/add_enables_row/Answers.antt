-- one piece after the other
use Rattle.std.proofs.Common.{ℕ, List, ◌++◌, codes, decimal}
use Rattle.chi_cover.specs.declared.bin.Bin.TheVariants.{Enables}
use Rattle.chi_cover.specs.declared.bin.Enabled.TheVariants.{NoLane}
use Rattle.chi_cover.specs.Counts.{count_in}
use Rattle.chi_cover.specs.Texts.{enables_row, some_text}
use Rattle.chi_text.proofs.Growing.{joined}
use Rattle.chi_cover.proofs.Lists.{on_ok}
use Rattle.chi_cover.proofs.rows.add_enables_row.Goals as goal

pub returns : goal.returns
unfolding enables_row
returns c =
    let counts = count_in c.args.covered.now in
    let len = c.args.len in
    let first = rw (c.from.ensures, c.writes-none.ensures) at c.in_ok-add_parts.ensures in
    let none : List ℕ = codes "WriteNoSnpPtl " ++ (decimal len ++ (codes ": none " ++ (decimal (counts (Enables len NoLane)) ++ codes ", "))) in
    on_ok c.add_parts-2.result (rw c.writes-all.ensures at c.add_parts-2.ensures)
    (λ end.
    joined c.args.to.now.items c.add_parts.new.to.items _ none _ first
    (joined c.add_parts.new.to.items c.add_some_enables.new.to.items _ (some_text counts len) _ c.in_ok-add_some_enables.ensures end))
