-- the states that were looked at on the way to the status, and the line that says how many were after the verdict
use Rattle.std.proofs.Common.{◌≡◌, ◌∙◌, ℕ, Option, subst, sym}
use Rattle.std.proofs.lemmas.Result.{IfOk-weaker}
use Rattle.chi_search.specs.Looks.{IsCutShort}
use Rattle.chi_check.proofs.CheckLemmas.{reported_by, spent_where_undecided}
use Rattle.chi_check.proofs.check.answered.Goals as goal

pub returns-clause-reported : goal.returns-clause-reported
returns-clause-reported g c =
    let told = IsCutShort g.P.Progress.states g.P.Progress.looked c.search.new.progress in
    let by : (cut_short : Option ℕ) → cut_short ≡ c.in_ok-searched.searched.cut_short → told cut_short = λ cut_short same. subst told (sym same) c.in_ok-searched.ensures.cut in
    IfOk-weaker c.report_of.result _ _
    (λ report reported. reported_by (λ cut_short. cut_short ≡ c.in_ok-searched.searched.cut_short) told by c.args.options.now c.args.recorded.now report.status report.text.items report.page.items reported)
    c.report_of.ensures.reported

pub returns-clause-spent : goal.returns-clause-spent
returns-clause-spent g c =
    let spent = c.in_ok-searched.ensures.spent in
    IfOk-weaker c.report_of.result _ _
    (λ report status. record {
      count = spent.count;
      found = spent.found;
      grew = spent.grew;
      undecided = λ is. spent_where_undecided c.args.options.now c.in_ok-searched.searched.answer spent.count c.in_ok-searched.ensures.undecided spent.undecided (sym status ∙ is);
    })
    c.report_of.ensures.status
