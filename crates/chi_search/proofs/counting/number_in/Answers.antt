-- the number of the bytes of the word, in their order
use Rattle.std.proofs.Common.{◌≡◌, ℕ, true, false, sym, ap, ◌∙◌}
use Rattle.chi_lanes.specs.Bytes.{number_in}
use Rattle.chi_lanes.specs.After.{old}
use Rattle.chi_lanes.specs.Memory.{granule_start}
use Rattle.chi_trace.specs.Granules.{with_word}
use Rattle.chi_search.proofs.Counters.{counter_of_word, counter_of_word-big}
use Rattle.chi_search.proofs.counting.number_in.Goals as goal

pub returns-then-endian-clause-number : goal.returns-then-endian-clause-number
returns-then-endian-clause-number c =
    let o = c.args.access.now in
    let read = rw (c.addr.ensures.value, c.len.ensures.value) at c.extract-number.ensures.value in
    let turned = rw (c.len-then-endian.ensures.value) at c.swap_order.ensures.reversed in
    turned
    ∙ counter_of_word-big o c.args.word c.extract-number.result (sym c.endian.ensures ∙ c.if-endian.true)
    (read ∙ counter_of_word o c.addr.ensures.lawful c.args.word c.ranges.word.fits)

pub returns-else-endian-clause-number : goal.returns-else-endian-clause-number
returns-else-endian-clause-number c =
    let o = c.args.access.now in
    let read = rw (c.addr.ensures.value, c.len.ensures.value) at c.extract-number.ensures.value in
    read
    ∙ counter_of_word o c.addr.ensures.lawful c.args.word c.ranges.word.fits
    ∙ ap (λ endian. number_in endian (old o (with_word (granule_start o.addr) c.args.word))) (sym (sym c.endian.ensures ∙ c.if-endian.false))
