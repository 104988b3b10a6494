-- the granules that were found are written, the lines of the first and its page are put, and then what is said once all is watched is
-- written
use Rattle.std.proofs.Common.{ℕ, Result, Err, IfSome, IsSomeAnd, ap, subst, sym}
use Rattle.std.proofs.lemmas.Result.{IfOk-weaker}
use Rattle.chi_watch_text.specs.declared.line_format.LineFormat.{LineFormat}
use Rattle.chi_watch_text.specs.declared.options.WatchOptions.{WatchOptions}
use Rattle.chi_watch_text.proofs.Told.{passed_on}
use Rattle.chi_search.specs.Looks.{GrewBy, for_verdict}
use Rattle.chi_check.specs.Check.{KeepsUnanswered}
use Rattle.chi_check.specs.Saving.{IsUnsaved}
use Rattle.chi_check.specs.Watch.{WatchOutcome, stopped_by, watching}
use Rattle.chi_check.specs.declared.fault.CheckFault.{CheckFault}
use Rattle.chi_check.proofs.SavingLemmas.{saved, unsaved, unsaved_unanswered}
use Rattle.chi_check.proofs.ShowingLemmas.{shown, spent_after, unshown, unshown_unanswered}
use Rattle.chi_check.proofs.WatchLemmas.{closed, closed_unanswered, spent_at_six, stopped, unanswered, watched_status}
use Rattle.chi_check.proofs.watch.watch.Goals as goal

pub returns-in_ok-show_first-in-Ok-clause-outcome : goal.returns-in_ok-show_first-in-Ok-clause-outcome
returns-in_ok-show_first-in-Ok-clause-outcome g c =
    let old = g.W.Write.contents c.args.to.now in
    let new = g.W.Write.contents c.write_closing.new.to in
    subst (λ (how : WatchOptions). IfSome (g.R.Read.remaining c.args.from.now) (λ input. WatchOutcome how input old new c.write_closing.result)) c.watching-how.ensures
    (closed c.watching-how.result _ _ _ c.in-Ok.watched c.in-Ok.ensures.told (g.R.Read.remaining c.args.from.now) c.write_closing.result c.in-Ok.ensures.outcome c.write_closing.ensures)

pub returns-in_ok-show_first-in-Ok-clause-unanswered : goal.returns-in_ok-show_first-in-Ok-clause-unanswered
returns-in_ok-show_first-in-Ok-clause-unanswered g c = closed_unanswered c.watching-how.result _ _ _ c.in-Ok.watched c.in-Ok.ensures.told c.write_closing.result c.write_closing.ensures

pub returns-in_ok-show_first-in-Ok-clause-status : goal.returns-in_ok-show_first-in-Ok-clause-status
returns-in_ok-show_first-in-Ok-clause-status g c = watched_status c.watching-how.result _ _ c.in-Ok.watched c.write_closing.result c.write_closing.ensures

pub returns-in_ok-show_first-in-Ok-clause-spent : goal.returns-in_ok-show_first-in-Ok-clause-spent
returns-in_ok-show_first-in-Ok-clause-spent g c =
    let looked = g.P.Progress.looked in
    IfOk-weaker c.write_closing.result _ _
    (λ status spent six. spent_after g.P.Progress.states looked c.args.progress.now c.clear.new.self c.show_first.new.progress c.args.options.now.budget
    (λ n known. let went = subst (GrewBy (looked for_verdict) c.args.progress.now c.watched-found.new.progress) (ap (λ (how : WatchOptions). how.budget) c.watching-how.ensures) (spent six) n known in
    (went.0, went.1, g.met.P.Progress.are_states c.clear.new.self went.0 (c.clear.ensures.looked for_verdict went.0 went.2)))
    c.in_ok-show_first-in-Ok.ensures.looked)
    (spent_at_six (looked for_verdict) c.args.progress.now c.watched-found.new.progress c.watching-how.result _ _ c.in-Ok.watched c.write_closing.result
    c.write_closing.ensures c.in-Ok.ensures.undecided)

pub returns-in_ok-show_first-in-Ok-clause-saved : goal.returns-in_ok-show_first-in-Ok-clause-saved
returns-in_ok-show_first-in-Ok-clause-saved g c =
    saved g.G.Pages.has_put c.args.options.now c.watching-how.result (g.R.Read.remaining c.args.from.now) _ _ _ c.in-Ok.watched _ _ _ c.write_closing.result c.watching-how.ensures
    c.in-Ok.ensures.outcome c.in-Ok.ensures.keeps c.in-Ok.ensures.told c.write_closing.ensures c.in_ok-save_first-in-Ok.ensures.put c.in_ok-show_first-in-Ok.ensures.before

pub returns-in_ok-show_first-in-Ok-clause-shown : goal.returns-in_ok-show_first-in-Ok-clause-shown
returns-in_ok-show_first-in-Ok-clause-shown g c =
    shown g.G.Pages.has_put c.args.options.now c.watching-how.result (g.R.Read.remaining c.args.from.now) _ _ _ c.in-Ok.watched _ _ _ c.write_closing.result c.watching-how.ensures
    c.in-Ok.ensures.outcome c.in-Ok.ensures.keeps c.in-Ok.ensures.told c.write_closing.ensures c.in_ok-save_first-in-Ok.ensures.before c.in_ok-show_first-in-Ok.ensures.put

pub returns-in_err-save_first-in-Ok-clause-outcome : goal.returns-in_err-save_first-in-Ok-clause-outcome
returns-in_err-save_first-in-Ok-clause-outcome g c =
    let input = g.R.Read.remaining c.args.from.now in
    let old = g.W.Write.contents c.args.to.now in
    let new = g.W.Write.contents c.watched-found.new.to in
    let fault = c.in_err-save_first-in-Ok.field-0.0 in
    let why =
    subst (λ (f : LineFormat). IsSomeAnd c.in-Ok.watched.kept (λ k. IsUnsaved f c.in-Ok.watched k.items fault)) (sym (ap (λ (how : WatchOptions). how.format) c.watching-how.ensures))
    c.in_err-save_first-in-Ok.ensures.fault in
    passed_on c.from_residual.result fault (λ (r : Result ℕ CheckFault). IfSome input (λ bytes. WatchOutcome (watching c.args.options.now) bytes old new r)) c.from_residual.ensures.1
    (subst (λ (how : WatchOptions). IfSome input (λ bytes. WatchOutcome how bytes old new (Err fault))) c.watching-how.ensures
    (unsaved c.watching-how.result old new c.in-Ok.watched c.in-Ok.ensures.told input fault c.in-Ok.ensures.outcome why))

pub returns-in_err-save_first-in-Ok-clause-unanswered : goal.returns-in_err-save_first-in-Ok-clause-unanswered
returns-in_err-save_first-in-Ok-clause-unanswered g c =
    let old = g.W.Write.contents c.args.to.now in
    let new = g.W.Write.contents c.watched-found.new.to in
    let fault = c.in_err-save_first-in-Ok.field-0.0 in
    let why =
    subst (λ (f : LineFormat). IsSomeAnd c.in-Ok.watched.kept (λ k. IsUnsaved f c.in-Ok.watched k.items fault)) (sym (ap (λ (how : WatchOptions). how.format) c.watching-how.ensures))
    c.in_err-save_first-in-Ok.ensures.fault in
    passed_on c.from_residual.result fault (λ (r : Result ℕ CheckFault). KeepsUnanswered old new r) c.from_residual.ensures.1
    (unsaved_unanswered c.watching-how.result old new c.in-Ok.watched c.in-Ok.ensures.told c.in-Ok.watched.kept fault why)

pub returns-in_err-show_first-in-Ok-clause-outcome : goal.returns-in_err-show_first-in-Ok-clause-outcome
returns-in_err-show_first-in-Ok-clause-outcome g c =
    let input = g.R.Read.remaining c.args.from.now in
    let old = g.W.Write.contents c.args.to.now in
    let new = g.W.Write.contents c.watched-found.new.to in
    let fault = c.in_err-show_first-in-Ok.field-0.0 in
    let passed = c.from_residual-in_err-show_first-in-Ok in
    passed_on passed.result fault (λ (r : Result ℕ CheckFault). IfSome input (λ bytes. WatchOutcome (watching c.args.options.now) bytes old new r)) passed.ensures.1
    (subst (λ (how : WatchOptions). IfSome input (λ bytes. WatchOutcome how bytes old new (Err fault))) c.watching-how.ensures
    (unshown c.watching-how.result old new c.in-Ok.watched c.in-Ok.ensures.told input fault c.in-Ok.ensures.outcome c.in_err-show_first-in-Ok.ensures.fault))

pub returns-in_err-show_first-in-Ok-clause-unanswered : goal.returns-in_err-show_first-in-Ok-clause-unanswered
returns-in_err-show_first-in-Ok-clause-unanswered g c =
    let old = g.W.Write.contents c.args.to.now in
    let new = g.W.Write.contents c.watched-found.new.to in
    let fault = c.in_err-show_first-in-Ok.field-0.0 in
    let passed = c.from_residual-in_err-show_first-in-Ok in
    passed_on passed.result fault (λ (r : Result ℕ CheckFault). KeepsUnanswered old new r) passed.ensures.1
    (unshown_unanswered c.watching-how.result old new c.in-Ok.watched c.in-Ok.ensures.told fault c.in_err-show_first-in-Ok.ensures.fault)

pub returns-in-Err-clause-outcome : goal.returns-in-Err-clause-outcome
returns-in-Err-clause-outcome g c =
    let input = g.R.Read.remaining c.args.from.now in
    let old = g.W.Write.contents c.args.to.now in
    let new = g.W.Write.contents c.watched-found.new.to in
    rw (c.stopped_by.ensures, c.deref.ensures.value)
    (subst (λ (how : WatchOptions). IfSome input (λ bytes. WatchOutcome how bytes old new (Err (stopped_by c.in-Err.unfinished.fault c.in-Err.unfinished.found.items))))
    c.watching-how.ensures
    (stopped c.watching-how.result old new input c.in-Err.unfinished c.in-Err.ensures.outcome c.in-Err.ensures.kept c.in-Err.ensures.begun))

pub returns-in-Err-clause-unanswered : goal.returns-in-Err-clause-unanswered
returns-in-Err-clause-unanswered g c =
    rw (c.stopped_by.ensures, c.deref.ensures.value)
    (unanswered c.watching-how.result _ _ c.in-Err.unfinished.fault c.in-Err.unfinished.found.items c.in-Err.ensures.kept)
