-- event after event is recorded
use Rattle.std.proofs.Common.{◌++◌, ◌∷◌, [], ◌∙◌, IfErr, IfSome, Option, Result, subst}
use Rattle.chi_events.specs.declared.event.Event.{Event}
use Rattle.chi_reading.specs.declared.recorded.Recorded.{Recorded}
use Rattle.chi_watch_text.specs.Outcomes.{IsLinesFault}
use Rattle.chi_watch_text.specs.Reading.{GivesNext}
use Rattle.chi_watch_text.specs.Recorded.{IsRecorded}
use Rattle.chi_watch_text.specs.declared.fault.LinesFault.{LinesFault}
use Rattle.chi_watch_text.specs.declared.line_format.LineFormat.{LineFormat}
use Rattle.chi_watch_text.proofs.Recordings.{all_recorded, event_recorded, none_recorded, taken_lines}
use Rattle.chi_watch_text.proofs.Refused.{where_not_taken, where_refused}
use Rattle.chi_watch_text.proofs.Told.{passed_on}
use Rattle.chi_watch_text.proofs.recorded.record_each.Goals as goal

pub loop-init : goal.loop-init
loop-init g c =
    let start = g.R.Read.remaining c.args.from.now in
    record {
      lines = none_recorded start c.args.recording c.new-reading.result c.requires (c.new-reading.ensures.given start);
      recorded = ([], c.requires);
      format = c.new-reading.ensures.format;
    }

pub loop-preserved : goal.loop-preserved
loop-preserved g c =
    let start = g.R.Read.remaining c.args.from.now in
    let now = g.R.Read.remaining c.loop.from in
    let later = g.R.Read.remaining c.next_event.new.from in
    let before = c.loop.invariant in
    let gives = subst (λ (o : Option Event). GivesNext start c.loop.reading now o c.next_event.new.self later) c.in-Some.is (c.in_ok-event.ensures.gives start) in
    record {
      lines = event_recorded start now later c.loop.recording c.record.new.self c.loop.reading c.next_event.new.self c.in-Some.event before.lines gives c.in_ok-record.ensures.recorded;
      recorded = (before.recorded.0 ++ c.in-Some.event ∷ [], c.in_ok-record.ensures.recorded before.recorded.0 before.recorded.1);
      format = c.next_event.ensures.format ∙ before.format;
    }

pub trace-requires : goal.trace-requires
trace-requires g c = record { told = c.loop.invariant.recorded }

pub returns-in_default-clause-recorded : goal.returns-in_default-clause-recorded
returns-in_default-clause-recorded g c =
    let start = g.R.Read.remaining c.args.from.now in
    let now = g.R.Read.remaining c.loop.from in
    let later = g.R.Read.remaining c.next_event.new.from in
    let gives = subst (λ (o : Option Event). GivesNext start c.loop.reading now o c.next_event.new.self later) c.in_default.is (c.in_ok-event.ensures.gives start) in
    subst (λ (f : LineFormat). IfSome start (λ text. IsRecorded f text c.in_ok-trace.field-0)) c.loop.invariant.format
    (all_recorded start now later c.loop.recording c.loop.reading c.next_event.new.self _ c.loop.invariant.lines gives c.in_ok-trace.ensures)

pub returns-in_err-event-clause-fault : goal.returns-in_err-event-clause-fault
returns-in_err-event-clause-fault g c =
    let start = g.R.Read.remaining c.args.from.now in
    let now = g.R.Read.remaining c.loop.from in
    let f = c.in_err-event.field-0.0 in
    passed_on c.from_residual.result f (λ (r : Result Recorded LinesFault). IfSome start (λ text. IfErr r (IsLinesFault c.args.format text))) c.from_residual.ensures.1
    (subst (λ (k : LineFormat). IfSome start (λ text. IsLinesFault k text f)) c.loop.invariant.format
    (where_refused start now c.loop.recording.watch c.loop.reading c.next_event.new.self f (taken_lines start now c.loop.recording c.loop.reading c.loop.invariant.lines) (c.in_err-event.ensures.fault start)))

pub returns-in_err-record-clause-fault : goal.returns-in_err-record-clause-fault
returns-in_err-record-clause-fault g c =
    let start = g.R.Read.remaining c.args.from.now in
    let now = g.R.Read.remaining c.loop.from in
    let later = g.R.Read.remaining c.next_event.new.from in
    let f = c.in_err-record.field-0.0 in
    let gives = subst (λ (o : Option Event). GivesNext start c.loop.reading now o c.next_event.new.self later) c.in-Some.is (c.in_ok-event.ensures.gives start) in
    passed_on c.from_residual-in_err-record.result f (λ (r : Result Recorded LinesFault). IfSome start (λ text. IfErr r (IsLinesFault c.args.format text))) c.from_residual-in_err-record.ensures.1
    (subst (λ (k : LineFormat). IfSome start (λ text. IsLinesFault k text f)) (c.next_event.ensures.format ∙ c.loop.invariant.format)
    (where_not_taken start now later c.loop.recording.watch c.loop.reading c.next_event.new.self c.in-Some.event f (taken_lines start now c.loop.recording c.loop.reading c.loop.invariant.lines) gives
    c.in_err-record.ensures.fault))
