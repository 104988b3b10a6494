-- one line after the other
use Rattle.std.proofs.Common.{◌++◌, None, codes}
use Rattle.chi_answer.specs.Stops.{stop_text}
use Rattle.chi_excerpt.specs.Excerpts.{excerpt_text, order_line}
use Rattle.chi_excerpt.specs.Writers.{writers_text}
use Rattle.chi_text.proofs.Growing.{part_then}
use Rattle.chi_watch_text.proofs.reach_lines.add_stop_lines.Goals as goal

pub returns : goal.returns
returns c =
    let s = c.args.stop.now in
    let stopped = stop_text None s in
    let shown = excerpt_text (codes "line") s in
    let ordered = order_line (codes " in an order that ends with lines") s.time s.order.items in
    let written = writers_text (codes "line") s s.order.items in
    let last = c.add_writers.new.to.items in
    part_then c.add_writers.result c.args.to.now.items c.add_stop.new.to.items last stopped (shown ++ (ordered ++ written)) c.in_ok-add_stop.ensures
    (part_then c.add_writers.result c.add_stop.new.to.items c.add_excerpt.new.to.items last shown (ordered ++ written) c.in_ok-add_excerpt.ensures
    (part_then c.add_writers.result c.add_excerpt.new.to.items c.add_order.new.to.items last ordered written
    (rw c.deref.ensures.value at c.in_ok-add_order.ensures) (rw c.deref-2.ensures.value at c.add_writers.ensures)))
