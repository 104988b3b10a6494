-- one part after the other
use Rattle.std.proofs.Common.{◌<◌, All, ℕ, length, codes, sym, subst}
use Rattle.chi_answer.specs.Texts.{blame_text}
use Rattle.chi_excerpt.specs.Excerpts.{excerpt_text}
use Rattle.chi_excerpt.specs.Failures.{order_in, last_lines}
use Rattle.chi_excerpt.proofs.Failures.{order_places, text_of}
use Rattle.chi_excerpt.proofs.failure.failure_text.Goals as goal

pub add_last-requires : goal.add_last-requires
add_last-requires c =
    let r = c.args.recorded.now in
    let blame = c.args.blame.now in
    let inside : ℕ → Type 0 = λ i. i < length r.trace.operations in
    rw c.deref-2.ensures.value (subst (All inside) (sym c.in_ok-order.ensures)
    (rw c.deref.ensures.value (order_places r blame.granule blame.order.items)))

pub returns : goal.returns
returns c =
    let r = c.args.recorded.now in
    let blame = c.args.blame.now in
    text_of c.new-text.result.items c.add_blame.new.to.items c.add_excerpt.new.to.items c.add_last.new.to.items
    (blame_text blame) (excerpt_text (codes "request") blame.stop) (last_lines r c.args.around blame.stop (order_in r blame.granule blame.order.items))
    c.new-text.ensures.items c.in_ok-add_blame.ensures c.in_ok-add_excerpt.ensures
    (rw (c.deref-2.ensures.value, c.in_ok-order.ensures, c.deref.ensures.value) at c.in_ok-add_last.ensures)
