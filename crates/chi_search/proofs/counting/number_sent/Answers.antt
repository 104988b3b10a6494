-- the number of the bytes that are sent, in their order
use Rattle.std.proofs.Common.{◌≡◌, ℕ, true, sym, ap, ◌∙◌}
use Rattle.chi_search.proofs.Counters.{sent-big}
use Rattle.chi_search.proofs.counting.number_sent.Goals as goal

pub returns-then-endian-clause-number : goal.returns-then-endian-clause-number
returns-then-endian-clause-number c =
    let o = c.args.access.now in
    let read = rw (c.lanes.ensures, c.lane.ensures, c.len.ensures.value) at c.compare_half-number.ensures.value in
    let turned = rw (c.len-then-endian.ensures.value) at c.swap_order.ensures.reversed in
    turned ∙ sent-big o c.len.ensures.lawful c.compare_half-number.result (sym c.endian.ensures ∙ c.if-endian.true) read
