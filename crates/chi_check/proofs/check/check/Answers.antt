-- the trace was read, and its answer is written
use Rattle.chi_search.specs.Looks.{IsCutShort}
use Rattle.chi_check.proofs.CheckLemmas.{cut, no_trace, put, unput, written}
use Rattle.chi_check.proofs.check.check.Goals as goal

pub returns-in-Err-clause-outcome : goal.returns-in-Err-clause-outcome
returns-in-Err-clause-outcome g c =
    no_trace (IsCutShort g.P.Progress.states g.P.Progress.looked c.args.progress.now) c.args.options.now (g.R.Read.remaining c.args.from.now) (g.W.Write.contents c.args.to.now) (g.W.Write.contents c.args.to.now) c.in_ok-input.input.items c.in-Err.fault c.in_ok-input.ensures.bytes (rw c.deref.ensures.value at c.in-Err.ensures.fault)

pub returns-in-Ok-write_bytes-clause-outcome : goal.returns-in-Ok-write_bytes-clause-outcome
returns-in-Ok-write_bytes-clause-outcome g c =
    written (IsCutShort g.P.Progress.states g.P.Progress.looked c.reported.new.progress) c.args.options.now _ _ _ c.in_ok-input.input.items c.in-Ok.recorded c.in-Ok-reported.report.status c.in-Ok-reported.report.text.items c.in-Ok-reported.report.page.items c.in_ok-input.ensures.bytes
    c.in_ok-input.ensures.within (rw c.deref.ensures.value at c.in-Ok.ensures.trace) c.in-Ok-reported.ensures.reported (rw c.deref-3.ensures.value at c.in-Ok-write_bytes.ensures)

pub returns-clause-outcome : goal.returns-clause-outcome
returns-clause-outcome g c =
    cut (IsCutShort g.P.Progress.states g.P.Progress.looked c.reported.new.progress) c.args.options.now _ _ _ c.in_ok-input.input.items c.in-Ok.recorded c.in-Ok-reported.report.status c.in-Ok-reported.report.text.items c.in-Ok-reported.report.page.items c.in-Err-write_bytes.fault c.in_ok-input.ensures.bytes
    c.in_ok-input.ensures.within (rw c.deref.ensures.value at c.in-Ok.ensures.trace) c.in-Ok-reported.ensures.reported (rw c.deref-3.ensures.value at c.in-Err-write_bytes.ensures)

pub returns-in-Ok-write_bytes-clause-page : goal.returns-in-Ok-write_bytes-clause-page
returns-in-Ok-write_bytes-clause-page g c =
    put g.G.Pages.has_put (IsCutShort g.P.Progress.states g.P.Progress.looked c.reported.new.progress) c.args.options.now _ _ _ c.in_ok-input.input.items c.in-Ok.recorded c.in-Ok-reported.report.status c.in-Ok-reported.report.text.items
    c.in-Ok-reported.report.page.items _ c.in_ok-input.ensures.bytes
    c.in_ok-input.ensures.within (rw c.deref.ensures.value at c.in-Ok.ensures.trace) c.in-Ok-reported.ensures.reported (rw c.deref-3.ensures.value at c.in-Ok-write_bytes.ensures) (rw c.deref-2.ensures.value at c.put_page.ensures.put c.if-not-put_page.false)

pub returns-then-not-put_page-clause-outcome : goal.returns-then-not-put_page-clause-outcome
returns-then-not-put_page-clause-outcome g c =
    unput (IsCutShort g.P.Progress.states g.P.Progress.looked c.reported.new.progress) c.args.options.now (g.R.Read.remaining c.args.from.now) (g.W.Write.contents c.args.to.now) (g.W.Write.contents c.args.to.now) c.in_ok-input.input.items c.in-Ok.recorded c.in-Ok-reported.report.status c.in-Ok-reported.report.text.items c.in-Ok-reported.report.page.items c.in_ok-input.ensures.bytes
    c.in_ok-input.ensures.within (rw c.deref.ensures.value at c.in-Ok.ensures.trace) c.in-Ok-reported.ensures.reported (c.put_page.ensures.asked c.if-not-put_page.true)
