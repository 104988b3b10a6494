-- what was counted is written, and its page is put
use Rattle.chi_check.proofs.CountedLemmas.{cut, put, unput, written}
use Rattle.chi_check.proofs.cover.cover.Goals as goal

pub returns-then-not-put_page-clause-outcome : goal.returns-then-not-put_page-clause-outcome
returns-then-not-put_page-clause-outcome g c =
    unput (g.G.Sources.holds c.args.machine.now) c.args.options.now (g.R.Read.remaining c.args.from.now) c.in-Ok.plan c.in-Ok.ensures.plan c.in_ok-counted.counted c.in_ok-counted.ensures.counts (g.W.Write.contents c.args.to.now) (g.W.Write.contents c.args.to.now)
    (c.put_page.ensures.asked c.if-not-put_page.true)

pub returns-in-Ok-write_bytes-clause-outcome : goal.returns-in-Ok-write_bytes-clause-outcome
returns-in-Ok-write_bytes-clause-outcome g c =
    written (g.G.Sources.holds c.args.machine.now) c.args.options.now (g.R.Read.remaining c.args.from.now) c.in-Ok.plan c.in-Ok.ensures.plan c.in_ok-counted.counted c.in_ok-counted.ensures.counts _ _ c.cover_status.result
    (record { below = c.cover_status.ensures.below; reached = c.cover_status.ensures.reached }) (rw (c.deref-2.ensures.value, c.in-Ok-report_of.ensures.text) at c.in-Ok-write_bytes.ensures)

pub returns-in-Ok-write_bytes-clause-page : goal.returns-in-Ok-write_bytes-clause-page
returns-in-Ok-write_bytes-clause-page g c =
    put (g.G.Sources.holds c.args.machine.now) c.args.options.now (g.R.Read.remaining c.args.from.now) c.in-Ok.plan c.in-Ok.ensures.plan c.in_ok-counted.counted c.in_ok-counted.ensures.counts _ _ g.G.Pages.has_put c.in-Ok-report_of.report.page.items _
    c.in-Ok-report_of.ensures.page (rw (c.deref-2.ensures.value, c.in-Ok-report_of.ensures.text) at c.in-Ok-write_bytes.ensures) (rw c.deref.ensures.value at c.put_page.ensures.put c.if-not-put_page.false)

pub returns-clause-outcome : goal.returns-clause-outcome
returns-clause-outcome g c =
    cut (g.G.Sources.holds c.args.machine.now) c.args.options.now (g.R.Read.remaining c.args.from.now) c.in-Ok.plan c.in-Ok.ensures.plan c.in_ok-counted.counted c.in_ok-counted.ensures.counts _ _ c.in-Err-write_bytes.fault
    (rw (c.deref-2.ensures.value, c.in-Ok-report_of.ensures.text) at c.in-Err-write_bytes.ensures)
