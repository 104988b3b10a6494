-- what is shown of the progress is taken back, which changes nothing of what it knows
use Rattle.std.proofs.Common.{ℕ, Option, None, Some, IfOk, subst}
use Rattle.std.proofs.lemmas.Result.{IfOk-weaker}
use Rattle.chi_search.specs.Looks.{IsCutShort, Search, after_verdict}
use Rattle.chi_reading.specs.TraceText.{RecordedValue}
use Rattle.chi_check.specs.Pages.{IsReported}
use Rattle.chi_check.specs.declared.check.Report.{Report}
use Rattle.chi_check.proofs.CheckLemmas.{reported_by}
use Rattle.chi_check.proofs.check.reported.Goals as goal

same_told : {P : Type 0} (states : P → ℕ → Type 0) (looked : Search → P → ℕ → Type 0) (old new : P) → ((s : Search) (n : ℕ) → looked s new n → looked s old n) → ((n : ℕ) → states old n → states new n)
    → (cut_short : Option ℕ) → IsCutShort states looked old cut_short → IsCutShort states looked new cut_short
same_told states looked old new no_more same None told verdict n knows = same n (told verdict n (no_more (after_verdict verdict) n knows))
same_told states looked old new no_more same (Some most) told verdict n knows =
    let whole = told verdict n (no_more (after_verdict verdict) n knows) in (whole.0, whole.1, same whole.0 whole.2)

pub returns-clause-reported : goal.returns-clause-reported
returns-clause-reported g c =
    let states = g.P.Progress.states in
    let looked = g.P.Progress.looked in
    let old = c.answered-report.new.progress in
    let new = c.clear.new.self in
    let same = same_told states looked old new c.clear.ensures.no_more c.clear.ensures.states in
    subst (λ (r : RecordedValue). IfOk c.answered-report.result (λ (report : Report). IsReported (IsCutShort states looked new) c.args.options.now r report.status report.text.items report.page.items)) c.in_ok-part.ensures
    (IfOk-weaker c.answered-report.result _ _
    (λ report reported. reported_by (IsCutShort states looked old) (IsCutShort states looked new) same c.args.options.now c.in_ok-part.part report.status report.text.items report.page.items reported)
    c.answered-report.ensures.reported)

pub returns-clause-spent : goal.returns-clause-spent
returns-clause-spent g c =
    IfOk-weaker c.answered-report.result _ _
    (λ report spent. record {
      count = spent.count;
      found = λ n known. let found = spent.found n known in (found.0, found.1, (found.2.0, found.2.1, c.clear.ensures.looked (after_verdict found.0) found.2.0 found.2.2));
      grew = λ n known. let grew = spent.grew n known in (grew.0, grew.1, c.clear.ensures.states grew.0 grew.2);
      undecided = spent.undecided;
    })
    c.answered-report.ensures.spent
