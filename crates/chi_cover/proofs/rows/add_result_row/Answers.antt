-- one piece after the other
use Rattle.std.proofs.Common.{append-nil}
use Rattle.chi_cover.specs.Texts.{result_row}
use Rattle.chi_text.proofs.Growing.{joined}
use Rattle.chi_cover.proofs.Lists.{on_ok}
use Rattle.chi_cover.proofs.rows.add_result_row.Goals as goal

pub returns : goal.returns
unfolding result_row
returns c =
    let first = rw (c.name.ensures, c.from.ensures, c.count.ensures, c.count-2.ensures) at c.in_ok-add_parts.ensures in
    on_ok c.add_wrapped.result c.add_wrapped.ensures (λ end. joined _ _ _ _ _ (simp append-nil at first) end)
