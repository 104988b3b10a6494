-- the lines have a trace, and the report of it has the page
use Rattle.chi_search.specs.Looks.{IsCutShort}
use Rattle.chi_check.specs.Showing.{page_options}
use Rattle.chi_check.proofs.ShowingLemmas.{page_reported}
use Rattle.chi_check.proofs.show.page_of.Goals as goal

pub returns-in-Ok-reported-clause-page : goal.returns-in-Ok-reported-clause-page
returns-in-Ok-reported-clause-page g c =
    let report = c.in-Ok-reported.report in
    page_reported (IsCutShort g.P.Progress.states g.P.Progress.looked c.reported.new.progress) c.page_options-how.result (page_options c.args.options.now c.args.granule) c.args.lines.now c.in-Ok.recorded report.status report.text.items report.page.items
    c.page_options-how.ensures c.in-Ok.ensures.recorded c.in-Ok-reported.ensures.reported
