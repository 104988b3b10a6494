-- the order has places of the trace
use Rattle.std.proofs.Common.{◌<◌, All, ℕ, length, sym, subst}
use Rattle.chi_excerpt.proofs.Failures.{order_places}
use Rattle.chi_page.proofs.stopped.last_before.Goals as goal

pub last_operations-requires : goal.last_operations-requires
last_operations-requires c =
    let r = c.args.recorded.now in
    let blame = c.args.blame.now in
    let inside : ℕ → Type 0 = λ i. i < length r.trace.operations in
    rw c.deref-2.ensures.value (subst (All inside) (sym c.in_ok-own.ensures)
    (rw c.deref.ensures.value (order_places r blame.granule blame.order.items)))
