-- line after line is taken
use Rattle.std.proofs.Common.{◌≡◌, ℕ, Bool, ◌++◌, ◌∷◌, [], All, IfErr, IfSome, ◌∙◌, flat_map, List, Option, Err, Result, inl, length, ap, refl, subst, sym, arith}
use Rattle.std.specs.Io.KnownBytes.{Appends}
use Rattle.std.proofs.lemmas.List.Elements.{All-nil}
use Rattle.chi_script.specs.WriterBytes.{AppendsFront}
use Rattle.chi_script.proofs.WriterBytesLemmas.{none_taken as nothing_written}
use Rattle.chi_search.proofs.Growing.{looked_none, some_after}
use Rattle.chi_events.specs.declared.event.Event.{Event}
use Rattle.chi_watch.specs.declared.ending.Ending.{Ending}
use Rattle.chi_watch.specs.declared.ending.FoundAtEnd.{FoundAtEnd}
use Rattle.chi_watch_text.specs.Kept.{KeepsLine}
use Rattle.chi_watch.specs.Reaching.{IsReachedBy}
use Rattle.chi_watch_text.specs.Outcomes.{AreAsFar, HasTakenLines, IsFoundBy, IsLinesFault, IsWatchingFault}
use Rattle.chi_watch_text.specs.Reading.{BeginsWith, GivesNext}
use Rattle.chi_watch_text.specs.Written.{found_text}
use Rattle.chi_watch_text.specs.declared.fault.LinesFault.{LinesFault}
use Rattle.chi_watch_text.specs.declared.fault.LinesFault.TheVariants as fault
use Rattle.chi_watch_text.specs.declared.line_format.LineFormat.{LineFormat}
use Rattle.chi_watch_text.specs.declared.watched.FoundGranule.{FoundGranule}
use Rattle.chi_watch_text.specs.declared.watched.Watched.{Watched}
use Rattle.chi_watch_text.proofs.KeptLines.{keeps_still, lines_kept_more, none_kept}
use Rattle.chi_watch_text.proofs.Readings.{none_pending}
use Rattle.chi_watch_text.proofs.RefusedLater.{found_refused, refused_fault}
use Rattle.chi_watch_text.proofs.ToldTexts.{whole_front, at_fault, begun_more, but_at_fault, told_more}
use Rattle.chi_watch_text.proofs.Told.{at_end, at_stop, event_taken, far_at_end, found_as, found_of, found_so_far, kept_at_fault, none_found, none_taken, no_fault, not_ok, passed_on, reached_by_found, settled, took, undecided_after, reached_all, reached_at_end, watched_as}
use Rattle.chi_watch_text.proofs.Refused.{but_write, held_up, where_not_taken, where_refused}
use Rattle.chi_watch_text.proofs.watching.watch_each.Goals as goal
use Rattle.chi_search.specs.Looks.{for_verdict}

pub loop-init : goal.loop-init
loop-init g c = record {
  taken = none_taken (g.R.Read.remaining c.args.from.now) c.args.watch c.new-reading.result c.args.found.now.items c.new-quiet.result.items ([], c.requires.untold) (c.new-reading.ensures.given (g.R.Read.remaining c.args.from.now))
      c.requires.none c.new-quiet.ensures.items;
  once = λ i j d before below. absurd (let none = ap length c.requires.none in omega (arith, before, below, none));
  told = ([], ([], c.requires.untold));
  shown = c.requires.shown;
  reached = subst (All (λ (f : FoundGranule). IsReachedBy (g.P.Progress.looked for_verdict) c.args.progress.now c.args.progress.now c.args.options.now.budget f.reach f.cut_short)) (sym c.requires.none)
      (All-nil (λ (f : FoundGranule). IsReachedBy (g.P.Progress.looked for_verdict) c.args.progress.now c.args.progress.now c.args.options.now.budget f.reach f.cut_short));
  written = subst (λ (l : List FoundGranule). Appends (g.W.Write.contents c.args.to.now) (g.W.Write.contents c.args.to.now) (flat_map (found_text c.args.options.now.answer) l)) (sym c.requires.none) (nothing_written (g.W.Write.contents c.args.to.now));
  first = λ stop. c.requires.none;
  looked = looked_none (g.P.Progress.looked for_verdict) c.args.progress.now;
  kept = none_kept (g.R.Read.remaining c.args.from.now) c.nothing_kept-kept.result c.nothing_kept-kept.ensures.empty;
  keeps = c.nothing_kept-kept.ensures.keeps;
  format = c.new-reading.ensures.format;
}

pub returns-in-Err-clause-fault : goal.returns-in-Err-clause-fault
returns-in-Err-clause-fault g c =
    let start = g.R.Read.remaining c.args.from.now in
    let now = g.R.Read.remaining c.loop.from in
    let f = c.in-Err.fault in
    let format = c.args.options.now.format in
    let before = c.loop.invariant in
    let took_now = took start now c.loop.time c.loop.is_ended c.loop.found.items c.loop.quiet.items c.loop.watch c.loop.reading before.taken in
    refused_fault format start f c.refused.result
    (subst (λ (k : LineFormat). IfSome start (λ text. IsLinesFault k text f)) before.format
    (where_refused start now c.loop.watch c.loop.reading c.next_event.new.self f took_now (c.in-Err.ensures.fault start)))
    c.refused.ensures.fault

pub loop-preserved : goal.loop-preserved
loop-preserved g c =
    let before = c.loop.invariant in
    let settled_now =
    settled (g.R.Read.remaining c.args.from.now) (g.R.Read.remaining c.loop.from) (g.R.Read.remaining c.next_event.new.from) c.loop.time c.loop.is_ended c.loop.found.items
    c.judge_quiet.new.found.items c.loop.quiet.items c.judge_quiet.new.quiet.items c.loop.watch c.loop.reading c.next_event.new.self c.in-Ok.next c.is_past-is_past.result before.taken (c.in-Ok.ensures.gives (g.R.Read.remaining c.args.from.now)) c.next_event.ensures.format c.is_past-is_past.ensures.past
    c.in_ok-judge_quiet.ensures.waits c.in_ok-judge_quiet.ensures.cleared c.in_ok-judge_quiet.ensures.each in
    let first = none_found c.is_past-is_past.result c.stops.result c.args.options.now.keep_going c.loop.found.items c.judge_quiet.new.found.items before.first
    (λ waits. (c.in_ok-judge_quiet.ensures.waits waits).0) c.if-stops.false (rw c.deref.ensures.value at c.stops.ensures.goes_on) in
    let some = some_after (g.P.Progress.looked for_verdict) c.args.progress.now c.loop.progress c.judge_quiet.new.progress before.looked c.in_ok-judge_quiet.ensures.looked in
    let gives = subst (λ (o : Option Event). GivesNext (g.R.Read.remaining c.args.from.now) c.loop.reading (g.R.Read.remaining c.loop.from) o c.next_event.new.self (g.R.Read.remaining c.next_event.new.from)) c.in-Some.is (c.in-Ok.ensures.gives (g.R.Read.remaining c.args.from.now)) in
    let begins =
    subst (λ (o : Option Event). IfSome o (λ _. BeginsWith (g.R.Read.remaining c.loop.from) c.next_event.new.self.lines.items (g.R.Read.remaining c.next_event.new.from))) c.in-Some.is c.in-Ok.ensures.lines in
    record {
      taken = subst (λ (b : Bool). HasTakenLines (g.R.Read.remaining c.args.from.now) c.in-Some.event.time b c.judge_quiet.new.found.items c.take_line.new.quiet.items c.take_line.new.watch c.next_event.new.self (g.R.Read.remaining c.next_event.new.from)) (sym c.is_end-is_ended.ensures)
          (event_taken (g.R.Read.remaining c.args.from.now) (g.R.Read.remaining c.loop.from) (g.R.Read.remaining c.next_event.new.from) c.loop.time c.loop.is_ended c.judge_quiet.new.found.items c.judge_quiet.new.quiet.items
          c.take_line.new.quiet.items c.loop.watch c.take_line.new.watch c.loop.reading c.next_event.new.self c.in-Some.event c.in_ok-take_line.ensures.taken.seen settled_now gives c.next_event.ensures.format
          c.in_ok-take_line.ensures.taken.takes c.in_ok-take_line.ensures.shown c.in_ok-take_line.ensures.taken.notes);
      once = c.in_ok-judge_quiet.ensures.once before.once;
      told = (before.told.0 ++ c.in-Some.event ∷ [], c.in_ok-take_line.ensures.taken.takes.taken before.told.0 before.told.1);
      shown = c.in_ok-take_line.ensures.shown ∙ before.shown;
      reached = reached_all c.loop.watch (g.P.Progress.looked for_verdict) c.args.progress.now c.loop.progress c.judge_quiet.new.progress c.take_line.new.progress c.args.options.now.budget
          c.loop.found.items c.judge_quiet.new.found.items before.looked c.in_ok-judge_quiet.ensures.looked c.in_ok-take_line.ensures.looked before.told.0 before.told.1 c.in_ok-judge_quiet.ensures.reached before.reached;
      written = told_more (found_text c.args.options.now.answer) c.loop.found.items c.judge_quiet.new.found.items (g.W.Write.contents c.args.to.now) (g.W.Write.contents c.loop.to) (g.W.Write.contents c.judge_quiet.new.to) before.written c.in_ok-judge_quiet.ensures.told;
      first = first;
      looked = some_after (g.P.Progress.looked for_verdict) c.args.progress.now c.judge_quiet.new.progress c.take_line.new.progress some c.in_ok-take_line.ensures.looked;
      kept = lines_kept_more (g.R.Read.remaining c.args.from.now) (g.R.Read.remaining c.loop.from) (g.R.Read.remaining c.next_event.new.from) c.loop.kept c.take_line.new.kept c.next_event.new.self.lines.items before.kept
          (subst (λ (l : List ℕ). KeepsLine c.loop.kept l c.take_line.new.kept) c.deref-in-loop.ensures.value c.in_ok-take_line.ensures.kept) begins;
      keeps = keeps_still c.loop.kept c.take_line.new.kept _ c.in_ok-take_line.ensures.kept ∙ before.keeps;
      format = c.next_event.ensures.format ∙ before.format;
    }

pub returns-then-stops-clause-watched : goal.returns-then-stops-clause-watched
returns-then-stops-clause-watched g c =
    let before = c.loop.invariant in
    let settled_now =
    settled (g.R.Read.remaining c.args.from.now) (g.R.Read.remaining c.loop.from) (g.R.Read.remaining c.next_event.new.from) c.loop.time c.loop.is_ended c.loop.found.items
    c.judge_quiet.new.found.items c.loop.quiet.items c.judge_quiet.new.quiet.items c.loop.watch c.loop.reading c.next_event.new.self c.in-Ok.next c.is_past-is_past.result before.taken (c.in-Ok.ensures.gives (g.R.Read.remaining c.args.from.now)) c.next_event.ensures.format c.is_past-is_past.ensures.past
    c.in_ok-judge_quiet.ensures.waits c.in_ok-judge_quiet.ensures.cleared c.in_ok-judge_quiet.ensures.each in
    let start = g.R.Read.remaining c.args.from.now in
    watched_as start _ _ _ _ c.args.options.now.keep_going c.stopped.result before.format before.shown
    (at_stop start (g.R.Read.remaining c.loop.from) (g.R.Read.remaining c.next_event.new.from) c.loop.time c.loop.is_ended c.judge_quiet.new.found.items c.judge_quiet.new.quiet.items
    c.args.options.now.keep_going c.is_past-is_past.result c.loop.watch c.loop.reading c.next_event.new.self c.in-Ok.next c.loop.kept c.stopped.result settled_now (c.in-Ok.ensures.gives start) c.next_event.ensures.format
    c.is_past-is_past.ensures.past (λ is. none_pending c.loop.reading c.is_whole-is_whole.result c.is_whole-is_whole.ensures (c.is_past-is_past.ensures.whole is)) (c.in_ok-judge_quiet.ensures.once before.once)
    ((rw c.deref.ensures.value at c.stops.ensures.stops) c.if-stops.true) c.stopped.ensures.told c.stopped.ensures.ending c.stopped.ensures.waiting before.kept)

pub returns-in_default-clause-watched : goal.returns-in_default-clause-watched
returns-in_default-clause-watched g c =
    let before = c.loop.invariant in
    let settled_now =
    settled (g.R.Read.remaining c.args.from.now) (g.R.Read.remaining c.loop.from) (g.R.Read.remaining c.next_event.new.from) c.loop.time c.loop.is_ended c.loop.found.items
    c.judge_quiet.new.found.items c.loop.quiet.items c.judge_quiet.new.quiet.items c.loop.watch c.loop.reading c.next_event.new.self c.in-Ok.next c.is_past-is_past.result before.taken (c.in-Ok.ensures.gives (g.R.Read.remaining c.args.from.now)) c.next_event.ensures.format c.is_past-is_past.ensures.past
    c.in_ok-judge_quiet.ensures.waits c.in_ok-judge_quiet.ensures.cleared c.in_ok-judge_quiet.ensures.each in
    let first = none_found c.is_past-is_past.result c.stops.result c.args.options.now.keep_going c.loop.found.items c.judge_quiet.new.found.items before.first
    (λ waits. (c.in_ok-judge_quiet.ensures.waits waits).0) c.if-stops.false (rw c.deref.ensures.value at c.stops.ensures.goes_on) in
    let gives = subst (λ (o : Option Event). GivesNext (g.R.Read.remaining c.args.from.now) c.loop.reading (g.R.Read.remaining c.loop.from) o c.next_event.new.self (g.R.Read.remaining c.next_event.new.from)) c.in_default.is (c.in-Ok.ensures.gives (g.R.Read.remaining c.args.from.now)) in
    let ended = c.in_ok-ended.ensures in
    let start = g.R.Read.remaining c.args.from.now in
    watched_as start _ _ _ _ c.args.options.now.keep_going c.in_ok-ended.field-0 before.format before.shown
    (at_end start (g.R.Read.remaining c.loop.from) (g.R.Read.remaining c.next_event.new.from) c.loop.time c.loop.is_ended c.judge_quiet.new.found.items c.judge_quiet.new.quiet.items
    c.args.options.now.keep_going c.loop.watch c.loop.reading c.next_event.new.self c.loop.kept c.in_ok-ended.field-0 settled_now gives (c.in-Ok.ensures.whole c.in_default.is) (c.in_ok-judge_quiet.ensures.once before.once) first
    ended.told ended.ending ended.says ended.waiting before.kept)

pub returns-in_default-clause-undecided : goal.returns-in_default-clause-undecided
returns-in_default-clause-undecided g c =
    let some = some_after (g.P.Progress.looked for_verdict) c.args.progress.now c.loop.progress c.judge_quiet.new.progress c.loop.invariant.looked c.in_ok-judge_quiet.ensures.looked in
    undecided_after (g.P.Progress.looked for_verdict) c.args.progress.now c.judge_quiet.new.progress c.ended.new.progress c.args.options.now.budget c.in_ok-ended.field-0 some c.in_ok-ended.ensures.undecided

pub returns-in_default-clause-far : goal.returns-in_default-clause-far
returns-in_default-clause-far g c =
    let before = c.loop.invariant in
    let settled_now =
    settled (g.R.Read.remaining c.args.from.now) (g.R.Read.remaining c.loop.from) (g.R.Read.remaining c.next_event.new.from) c.loop.time c.loop.is_ended c.loop.found.items
    c.judge_quiet.new.found.items c.loop.quiet.items c.judge_quiet.new.quiet.items c.loop.watch c.loop.reading c.next_event.new.self c.in-Ok.next c.is_past-is_past.result before.taken (c.in-Ok.ensures.gives (g.R.Read.remaining c.args.from.now)) c.next_event.ensures.format c.is_past-is_past.ensures.past
    c.in_ok-judge_quiet.ensures.waits c.in_ok-judge_quiet.ensures.cleared c.in_ok-judge_quiet.ensures.each in
    let gives = subst (λ (o : Option Event). GivesNext (g.R.Read.remaining c.args.from.now) c.loop.reading (g.R.Read.remaining c.loop.from) o c.next_event.new.self (g.R.Read.remaining c.next_event.new.from)) c.in_default.is (c.in-Ok.ensures.gives (g.R.Read.remaining c.args.from.now)) in
    let some = some_after (g.P.Progress.looked for_verdict) c.args.progress.now c.loop.progress c.judge_quiet.new.progress before.looked c.in_ok-judge_quiet.ensures.looked in
    let start = g.R.Read.remaining c.args.from.now in
    let budget = c.args.options.now.budget in
    let ending = c.in_ok-ended.field-0.ending in
    subst (λ (k : LineFormat). IfSome start (λ text. IfSome ending (λ e. AreAsFar (g.P.Progress.looked for_verdict) c.args.progress.now c.ended.new.progress budget k text e.undecided.items))) before.format
    (far_at_end (g.P.Progress.looked for_verdict) c.args.progress.now c.judge_quiet.new.progress c.ended.new.progress budget some
    start (g.R.Read.remaining c.loop.from) (g.R.Read.remaining c.next_event.new.from) c.loop.time c.loop.is_ended
    c.judge_quiet.new.found.items c.judge_quiet.new.quiet.items c.loop.watch c.loop.reading c.next_event.new.self ending settled_now gives c.in_ok-ended.ensures.far)

pub returns-in_default-clause-reached : goal.returns-in_default-clause-reached
returns-in_default-clause-reached g c =
    let looked = g.P.Progress.looked for_verdict in
    let old = c.args.progress.now in
    let middle = c.loop.progress in
    let new = c.judge_quiet.new.progress in
    let last = c.ended.new.progress in
    let budget = c.args.options.now.budget in
    let w = c.loop.watch in
    let before = c.loop.invariant in
    let some = some_after looked old middle new before.looked c.in_ok-judge_quiet.ensures.looked in
    reached_by_found looked old last budget c.judge_quiet.new.found.items c.in_ok-ended.field-0 c.in_ok-ended.ensures.told.found_is
    (reached_all w looked old middle new last budget c.loop.found.items c.judge_quiet.new.found.items before.looked c.in_ok-judge_quiet.ensures.looked c.in_ok-ended.ensures.looked before.told.0 before.told.1
    c.in_ok-judge_quiet.ensures.reached before.reached)
    (reached_at_end looked old new last budget w some before.told.0 before.told.1 c.in_ok-ended.field-0.ending c.in_ok-ended.ensures.reached)

pub returns-then-stops-clause-reached : goal.returns-then-stops-clause-reached
returns-then-stops-clause-reached g c =
    let looked = g.P.Progress.looked for_verdict in
    let old = c.args.progress.now in
    let middle = c.loop.progress in
    let new = c.judge_quiet.new.progress in
    let budget = c.args.options.now.budget in
    let before = c.loop.invariant in
    reached_by_found looked old new budget c.judge_quiet.new.found.items c.stopped.result c.stopped.ensures.told.found_is
    (reached_all c.loop.watch looked old middle new new budget c.loop.found.items c.judge_quiet.new.found.items before.looked c.in_ok-judge_quiet.ensures.looked (looked_none looked new) before.told.0
    before.told.1 c.in_ok-judge_quiet.ensures.reached before.reached)
    (subst (λ (o : Option Ending). IfSome o (λ ending. All (λ (f : FoundAtEnd). IsReachedBy looked old new budget f.reach f.cut_short) ending.unexplained.items)) (sym c.stopped.ensures.ending) tt)

pub returns-in_err-take_line-clause-fault : goal.returns-in_err-take_line-clause-fault
returns-in_err-take_line-clause-fault g c =
    let before = c.loop.invariant in
    let settled_now =
    settled (g.R.Read.remaining c.args.from.now) (g.R.Read.remaining c.loop.from) (g.R.Read.remaining c.next_event.new.from) c.loop.time c.loop.is_ended c.loop.found.items
    c.judge_quiet.new.found.items c.loop.quiet.items c.judge_quiet.new.quiet.items c.loop.watch c.loop.reading c.next_event.new.self c.in-Ok.next c.is_past-is_past.result before.taken (c.in-Ok.ensures.gives (g.R.Read.remaining c.args.from.now)) c.next_event.ensures.format c.is_past-is_past.ensures.past
    c.in_ok-judge_quiet.ensures.waits c.in_ok-judge_quiet.ensures.cleared c.in_ok-judge_quiet.ensures.each in
    let gives = subst (λ (o : Option Event). GivesNext (g.R.Read.remaining c.args.from.now) c.loop.reading (g.R.Read.remaining c.loop.from) o c.next_event.new.self (g.R.Read.remaining c.next_event.new.from)) c.in-Some.is (c.in-Ok.ensures.gives (g.R.Read.remaining c.args.from.now)) in
    let start = g.R.Read.remaining c.args.from.now in
    let now = g.R.Read.remaining c.loop.from in
    let f = c.in_err-take_line.field-0.0 in
    let took_now = took start now c.loop.time c.loop.is_ended c.judge_quiet.new.found.items c.judge_quiet.new.quiet.items c.loop.watch c.loop.reading settled_now in
    passed_on c.from_residual-in_err-take_line.result f (λ (r : Result Watched LinesFault). IfSome start (λ text. IfErr r (IsWatchingFault c.args.options.now.format text))) c.from_residual-in_err-take_line.ensures.1
    (but_write c.args.options.now.format start f (subst (λ (k : LineFormat). IfSome start (λ text. IsLinesFault k text f)) (c.next_event.ensures.format ∙ before.format)
    (where_not_taken start now (g.R.Read.remaining c.next_event.new.from) c.loop.watch c.loop.reading c.next_event.new.self c.in-Some.event f took_now gives c.in_err-take_line.ensures.fault)))

pub returns-in_err-judge_quiet-clause-found : goal.returns-in_err-judge_quiet-clause-found
returns-in_err-judge_quiet-clause-found g c =
    kept_at_fault (g.R.Read.remaining c.args.from.now) (λ text. All (IsFoundBy c.args.options.now.format text c.args.options.now.around) c.judge_quiet.new.found.items) _
    (found_as (g.R.Read.remaining c.args.from.now) _ _ _ _ c.judge_quiet.new.found.items c.loop.invariant.format c.loop.invariant.shown
    (found_so_far (g.R.Read.remaining c.args.from.now) (g.R.Read.remaining c.loop.from) (g.R.Read.remaining c.next_event.new.from) c.loop.time c.loop.is_ended c.loop.found.items
    c.judge_quiet.new.found.items c.loop.quiet.items c.loop.watch c.loop.reading c.next_event.new.self c.in-Ok.next c.is_past-is_past.result c.loop.invariant.taken (c.in-Ok.ensures.gives (g.R.Read.remaining c.args.from.now)) c.next_event.ensures.format c.is_past-is_past.ensures.past
    (λ wait. (c.judge_quiet.ensures.waits wait).0) c.judge_quiet.ensures.each))

pub returns-in_err-ended-clause-found : goal.returns-in_err-ended-clause-found
returns-in_err-ended-clause-found g c =
    kept_at_fault (g.R.Read.remaining c.args.from.now) (λ text. All (IsFoundBy c.args.options.now.format text c.args.options.now.around) c.ended.new.found.items) _
    (subst (λ (l : List FoundGranule). IfSome (g.R.Read.remaining c.args.from.now) (λ text. All (IsFoundBy c.args.options.now.format text c.args.options.now.around) l)) (sym c.in_err-ended.ensures.kept)
    (found_as (g.R.Read.remaining c.args.from.now) _ _ _ _ c.judge_quiet.new.found.items c.loop.invariant.format c.loop.invariant.shown
    (found_so_far (g.R.Read.remaining c.args.from.now) (g.R.Read.remaining c.loop.from) (g.R.Read.remaining c.next_event.new.from) c.loop.time c.loop.is_ended c.loop.found.items
    c.judge_quiet.new.found.items c.loop.quiet.items c.loop.watch c.loop.reading c.next_event.new.self c.in-Ok.next c.is_past-is_past.result c.loop.invariant.taken (c.in-Ok.ensures.gives (g.R.Read.remaining c.args.from.now)) c.next_event.ensures.format c.is_past-is_past.ensures.past
    (λ wait. (c.in_ok-judge_quiet.ensures.waits wait).0) c.in_ok-judge_quiet.ensures.each)))

pub returns-in_err-take_line-clause-found : goal.returns-in_err-take_line-clause-found
returns-in_err-take_line-clause-found g c =
    kept_at_fault (g.R.Read.remaining c.args.from.now) (λ text. All (IsFoundBy c.args.options.now.format text c.args.options.now.around) c.judge_quiet.new.found.items) _
    (found_as (g.R.Read.remaining c.args.from.now) _ _ _ _ c.judge_quiet.new.found.items c.loop.invariant.format c.loop.invariant.shown
    (found_so_far (g.R.Read.remaining c.args.from.now) (g.R.Read.remaining c.loop.from) (g.R.Read.remaining c.next_event.new.from) c.loop.time c.loop.is_ended c.loop.found.items
    c.judge_quiet.new.found.items c.loop.quiet.items c.loop.watch c.loop.reading c.next_event.new.self c.in-Ok.next c.is_past-is_past.result c.loop.invariant.taken (c.in-Ok.ensures.gives (g.R.Read.remaining c.args.from.now)) c.next_event.ensures.format c.is_past-is_past.ensures.past
    (λ wait. (c.in_ok-judge_quiet.ensures.waits wait).0) c.in_ok-judge_quiet.ensures.each))

pub returns-in-Err-clause-begun : goal.returns-in-Err-clause-begun
returns-in-Err-clause-begun g c =
    begun_more (found_text c.args.options.now.answer) c.loop.found.items c.refused.new.found.items (g.W.Write.contents c.args.to.now) (g.W.Write.contents c.loop.to) (g.W.Write.contents c.refused.new.to) c.loop.invariant.written c.refused.ensures.begun

pub returns-in_err-judge_quiet-clause-fault : goal.returns-in_err-judge_quiet-clause-fault
returns-in_err-judge_quiet-clause-fault g c =
    passed_on c.from_residual.result c.in_err-judge_quiet.field-0.0 (λ (r : Result Watched LinesFault). IfSome (g.R.Read.remaining c.args.from.now) (λ text. IfErr r (IsWatchingFault c.args.options.now.format text)))
    c.from_residual.ensures.1 (held_up c.args.options.now.format (g.R.Read.remaining c.args.from.now) c.in_err-judge_quiet.field-0.0 c.in_err-judge_quiet.ensures.fault)

pub returns-in_err-judge_quiet-clause-kept : goal.returns-in_err-judge_quiet-clause-kept
returns-in_err-judge_quiet-clause-kept g c =
    passed_on c.from_residual.result c.in_err-judge_quiet.field-0.0 (λ (r : Result Watched LinesFault). IfErr r (λ x. (x ≡ fault.Write → ⊥) → Appends (g.W.Write.contents c.args.to.now) (g.W.Write.contents c.judge_quiet.new.to) (flat_map (found_text c.args.options.now.answer) c.judge_quiet.new.found.items)))
    c.from_residual.ensures.1 (λ not. told_more (found_text c.args.options.now.answer) c.loop.found.items c.judge_quiet.new.found.items (g.W.Write.contents c.args.to.now) (g.W.Write.contents c.loop.to) (g.W.Write.contents c.judge_quiet.new.to) c.loop.invariant.written (c.in_err-judge_quiet.ensures.kept not))

pub returns-in_err-judge_quiet-clause-begun : goal.returns-in_err-judge_quiet-clause-begun
returns-in_err-judge_quiet-clause-begun g c =
    at_fault c.from_residual.result (AppendsFront (g.W.Write.contents c.args.to.now) (g.W.Write.contents c.judge_quiet.new.to) (flat_map (found_text c.args.options.now.answer) c.judge_quiet.new.found.items))
    (begun_more (found_text c.args.options.now.answer) c.loop.found.items c.judge_quiet.new.found.items (g.W.Write.contents c.args.to.now) (g.W.Write.contents c.loop.to) (g.W.Write.contents c.judge_quiet.new.to) c.loop.invariant.written c.judge_quiet.ensures.begun)

pub returns-in_err-ended-clause-begun : goal.returns-in_err-ended-clause-begun
returns-in_err-ended-clause-begun g c =
    at_fault c.from_residual-in_err-ended.result (AppendsFront (g.W.Write.contents c.args.to.now) (g.W.Write.contents c.judge_quiet.new.to) (flat_map (found_text c.args.options.now.answer) c.ended.new.found.items))
    (subst (λ (l : List FoundGranule). AppendsFront (g.W.Write.contents c.args.to.now) (g.W.Write.contents c.judge_quiet.new.to) (flat_map (found_text c.args.options.now.answer) l)) (sym c.in_err-ended.ensures.kept)
    (begun_more (found_text c.args.options.now.answer) c.loop.found.items c.judge_quiet.new.found.items (g.W.Write.contents c.args.to.now) (g.W.Write.contents c.loop.to) (g.W.Write.contents c.judge_quiet.new.to) c.loop.invariant.written c.judge_quiet.ensures.begun))

pub returns-in_default-clause-told : goal.returns-in_default-clause-told
returns-in_default-clause-told g c =
    subst (λ (l : List FoundGranule). Appends (g.W.Write.contents c.args.to.now) (g.W.Write.contents c.judge_quiet.new.to) (flat_map (found_text c.args.options.now.answer) l)) (sym c.in_ok-ended.ensures.told.found_is)
    (told_more (found_text c.args.options.now.answer) c.loop.found.items c.judge_quiet.new.found.items (g.W.Write.contents c.args.to.now) (g.W.Write.contents c.loop.to) (g.W.Write.contents c.judge_quiet.new.to) c.loop.invariant.written c.in_ok-judge_quiet.ensures.told)

pub returns-in_err-take_line-clause-kept : goal.returns-in_err-take_line-clause-kept
returns-in_err-take_line-clause-kept g c =
    but_at_fault c.from_residual-in_err-take_line.result (λ x. x ≡ fault.Write → ⊥) (Appends (g.W.Write.contents c.args.to.now) (g.W.Write.contents c.judge_quiet.new.to) (flat_map (found_text c.args.options.now.answer) c.judge_quiet.new.found.items))
    (told_more (found_text c.args.options.now.answer) c.loop.found.items c.judge_quiet.new.found.items (g.W.Write.contents c.args.to.now) (g.W.Write.contents c.loop.to) (g.W.Write.contents c.judge_quiet.new.to) c.loop.invariant.written c.in_ok-judge_quiet.ensures.told)

pub returns-in_err-take_line-clause-begun : goal.returns-in_err-take_line-clause-begun
returns-in_err-take_line-clause-begun g c =
    at_fault c.from_residual-in_err-take_line.result (AppendsFront (g.W.Write.contents c.args.to.now) (g.W.Write.contents c.judge_quiet.new.to) (flat_map (found_text c.args.options.now.answer) c.judge_quiet.new.found.items))
    (begun_more (found_text c.args.options.now.answer) c.loop.found.items c.judge_quiet.new.found.items (g.W.Write.contents c.args.to.now) (g.W.Write.contents c.loop.to) (g.W.Write.contents c.judge_quiet.new.to) c.loop.invariant.written c.judge_quiet.ensures.begun)

pub returns-in-Err-clause-found : goal.returns-in-Err-clause-found
returns-in-Err-clause-found g c =
    let start = g.R.Read.remaining c.args.from.now in
    let before = c.loop.invariant in
    found_as start _ _ _ _ c.refused.new.found.items before.format before.shown
    (found_refused start (g.R.Read.remaining c.loop.from) c.loop.time c.loop.is_ended c.loop.found.items c.refused.new.found.items c.loop.quiet.items c.loop.watch c.loop.reading c.next_event.new.self
    c.in-Err.fault before.taken (c.in-Err.ensures.fault start) c.next_event.ensures.format c.refused.ensures.found)

pub returns-in-Err-clause-kept : goal.returns-in-Err-clause-kept
returns-in-Err-clause-kept g c = λ not_write.
    told_more (found_text c.args.options.now.answer) c.loop.found.items c.refused.new.found.items (g.W.Write.contents c.args.to.now) (g.W.Write.contents c.loop.to) (g.W.Write.contents c.refused.new.to) c.loop.invariant.written
    (c.refused.ensures.kept not_write)

pub returns-clause-found : goal.returns-clause-found
returns-clause-found g c =
    let start = g.R.Read.remaining c.args.from.now in
    let before = c.loop.invariant in
    let ended : Result Watched LinesFault = Err fault.TooManyLines in
    kept_at_fault start (λ text. All (IsFoundBy c.args.options.now.format text c.args.options.now.around) c.loop.found.items) ended
    (found_as start _ _ _ _ c.loop.found.items before.format before.shown
    (found_of start (g.R.Read.remaining c.loop.from) c.loop.time c.loop.is_ended c.loop.found.items c.loop.quiet.items c.loop.watch c.loop.reading before.taken))

pub returns-in_err-ended-clause-kept : goal.returns-in_err-ended-clause-kept
returns-in_err-ended-clause-kept g c =
    but_at_fault c.from_residual-in_err-ended.result (λ x. x ≡ fault.Write → ⊥) (Appends (g.W.Write.contents c.args.to.now) (g.W.Write.contents c.judge_quiet.new.to) (flat_map (found_text c.args.options.now.answer) c.ended.new.found.items))
    (subst (λ (l : List FoundGranule). Appends (g.W.Write.contents c.args.to.now) (g.W.Write.contents c.judge_quiet.new.to) (flat_map (found_text c.args.options.now.answer) l)) (sym c.in_err-ended.ensures.kept)
    (told_more (found_text c.args.options.now.answer) c.loop.found.items c.judge_quiet.new.found.items (g.W.Write.contents c.args.to.now) (g.W.Write.contents c.loop.to) (g.W.Write.contents c.judge_quiet.new.to) c.loop.invariant.written c.in_ok-judge_quiet.ensures.told))

pub returns-clause-begun : goal.returns-clause-begun
returns-clause-begun g c = whole_front (g.W.Write.contents c.args.to.now) (g.W.Write.contents c.loop.to) (flat_map (found_text c.args.options.now.answer) c.loop.found.items) c.loop.invariant.written

pub returns-then-stops-clause-told : goal.returns-then-stops-clause-told
returns-then-stops-clause-told g c =
    subst (λ (l : List FoundGranule). Appends (g.W.Write.contents c.args.to.now) (g.W.Write.contents c.judge_quiet.new.to) (flat_map (found_text c.args.options.now.answer) l)) (sym c.stopped.ensures.told.found_is)
    (told_more (found_text c.args.options.now.answer) c.loop.found.items c.judge_quiet.new.found.items (g.W.Write.contents c.args.to.now) (g.W.Write.contents c.loop.to) (g.W.Write.contents c.judge_quiet.new.to) c.loop.invariant.written c.in_ok-judge_quiet.ensures.told)

pub returns-then-stops-clause-found : goal.returns-then-stops-clause-found
returns-then-stops-clause-found g c = no_fault (g.R.Read.remaining c.args.from.now)

pub returns-then-stops-clause-far : goal.returns-then-stops-clause-far
returns-then-stops-clause-far g c =
    let start = g.R.Read.remaining c.args.from.now in
    subst (λ (o : Option Ending). IfSome start (λ text. IfSome o (λ e. AreAsFar (g.P.Progress.looked for_verdict) c.args.progress.now c.judge_quiet.new.progress c.args.options.now.budget c.args.options.now.format text e.undecided.items)))
    (sym c.stopped.ensures.ending) (no_fault start)

pub returns-in_err-ended-clause-watched : goal.returns-in_err-ended-clause-watched
returns-in_err-ended-clause-watched g c = not_ok c.from_residual-in_err-ended.result _ (g.R.Read.remaining c.args.from.now) _ c.from_residual-in_err-ended.ensures.1

pub returns-in_err-ended-clause-fault : goal.returns-in_err-ended-clause-fault
returns-in_err-ended-clause-fault g c =
    let start = g.R.Read.remaining c.args.from.now in
    passed_on c.from_residual-in_err-ended.result fault.Memory (λ (r : Result Watched LinesFault). IfSome start (λ text. IfErr r (IsWatchingFault c.args.options.now.format text)))
    c.from_residual-in_err-ended.ensures.1 (held_up c.args.options.now.format start fault.Memory (inl refl))

pub returns-in_err-ended-clause-far : goal.returns-in_err-ended-clause-far
returns-in_err-ended-clause-far g c = not_ok c.from_residual-in_err-ended.result _ (g.R.Read.remaining c.args.from.now) _ c.from_residual-in_err-ended.ensures.1

pub returns-in_default-clause-fault : goal.returns-in_default-clause-fault
returns-in_default-clause-fault g c = no_fault (g.R.Read.remaining c.args.from.now)

pub returns-in_default-clause-found : goal.returns-in_default-clause-found
returns-in_default-clause-found g c = no_fault (g.R.Read.remaining c.args.from.now)

pub returns-in_err-take_line-clause-watched : goal.returns-in_err-take_line-clause-watched
returns-in_err-take_line-clause-watched g c = not_ok c.from_residual-in_err-take_line.result _ (g.R.Read.remaining c.args.from.now) _ c.from_residual-in_err-take_line.ensures.1

pub returns-in_err-take_line-clause-far : goal.returns-in_err-take_line-clause-far
returns-in_err-take_line-clause-far g c = not_ok c.from_residual-in_err-take_line.result _ (g.R.Read.remaining c.args.from.now) _ c.from_residual-in_err-take_line.ensures.1
