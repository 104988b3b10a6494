-- one part after the other
use Rattle.std.proofs.Common.{codes, length}
use Rattle.chi_excerpt.specs.Excerpts.{order_line}
use Rattle.chi_excerpt.specs.Failures.{last_operations, order_words}
use Rattle.chi_excerpt.specs.Writers.{writers_text}
use Rattle.chi_text.proofs.Growing.{part_then}
use Rattle.chi_excerpt.proofs.failure.add_last.Goals as goal

pub returns : goal.returns
returns c =
    let s = c.args.stop.now in
    let order = c.args.order.now in
    let most = c.args.most in
    let shown = last_operations c.args.recorded.now most order in
    part_then c.add_writers.result c.args.to.now.items c.add_order.new.to.items c.add_writers.new.to.items
    (order_line (order_words most (length order)) s.time shown) (writers_text (codes "request") s shown)
    (rw (c.order_words.ensures, c.deref.ensures.value, c.in_ok-ops.ensures) at c.in_ok-add_order.ensures)
    (rw (c.deref-2.ensures.value, c.in_ok-ops.ensures) at c.add_writers.ensures)
