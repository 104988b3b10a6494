-- event after event is read
use Rattle.std.proofs.Common.{◌++◌, IfErr, IfSome, Option, Result, option_to_list, subst, ap, ◌∙◌}
use Rattle.chi_fields.specs.declared.refusal.Refusal.{Refusal}
use Rattle.chi_events.specs.declared.event.Event.{Event}
use Rattle.chi_events.specs.Outstanding.{refusal_by}
use Rattle.chi_watch_text.specs.Operations.{AreOperations, AreRefusals, IsOperationsFault}
use Rattle.chi_watch_text.specs.Reading.{GivesNext}
use Rattle.chi_watch_text.specs.declared.fault.LinesFault.{LinesFault}
use Rattle.chi_watch_text.specs.declared.line_format.LineFormat.{LineFormat}
use Rattle.chi_watch_text.specs.declared.operations.OperationsTold.{OperationsTold}
use Rattle.chi_watch_text.proofs.AllRead.{all_read, all_refused, event_refused, line_refused, none_read, read_more}
use Rattle.chi_watch_text.proofs.Told.{passed_on}
use Rattle.chi_watch_text.proofs.operations.read_each.Goals as goal

pub loop-init : goal.loop-init
loop-init g c =
    let start = g.R.Read.remaining c.args.from.now in
    record {
      read = none_read start c.args.outstanding c.new-reading.result c.new-ops.result.items c.new-refusals.result.items c.requires (c.new-reading.ensures.given start)
          c.new-ops.ensures.items c.new-refusals.ensures.items;
      format = c.new-reading.ensures.format;
    }

pub loop-preserved : goal.loop-preserved
loop-preserved g c =
    let start = g.R.Read.remaining c.args.from.now in
    let now = g.R.Read.remaining c.loop.from in
    let later = g.R.Read.remaining c.next_event.new.from in
    let gives = subst (λ (o : Option Event). GivesNext start c.loop.reading now o c.next_event.new.self later) c.in-Some.is (c.in_ok-event.ensures.gives start) in
    record {
      read = read_more start now later c.loop.ops.items c.add_some.new.items.items c.loop.refusals.items c.add_some-in-loop.new.items.items c.loop.outstanding c.take_event.new.outstanding
          c.loop.reading c.next_event.new.self c.in-Some.event c.in_ok-ended.ended (refusal_by c.loop.outstanding.requests c.in-Some.event.kind) c.loop.invariant.read gives c.in_ok-ended.ensures.tells
          c.in_ok-ended.ensures.refusals c.in_ok-add_some.ensures (c.in_ok-add_some-2.ensures ∙ ap (λ (r : Option Refusal). c.loop.refusals.items ++ option_to_list r) c.refusal-refusal.ensures);
      format = c.next_event.ensures.format ∙ c.loop.invariant.format;
    }

pub returns-in_default-clause-told : goal.returns-in_default-clause-told
returns-in_default-clause-told g c =
    let start = g.R.Read.remaining c.args.from.now in
    let now = g.R.Read.remaining c.loop.from in
    let later = g.R.Read.remaining c.next_event.new.from in
    let gives = subst (λ (o : Option Event). GivesNext start c.loop.reading now o c.next_event.new.self later) c.in_default.is (c.in_ok-event.ensures.gives start) in
    subst (λ (f : LineFormat). IfSome start (λ text. AreOperations f text c.in_ok-in_order.field-0.items)) c.loop.invariant.format
    (all_read start now later c.loop.ops.items c.in_ok-in_order.field-0.items c.loop.refusals.items c.loop.outstanding c.loop.reading c.next_event.new.self c.loop.invariant.read gives c.in_ok-in_order.ensures)

pub returns-in_default-clause-refusals : goal.returns-in_default-clause-refusals
returns-in_default-clause-refusals g c =
    let start = g.R.Read.remaining c.args.from.now in
    let now = g.R.Read.remaining c.loop.from in
    let later = g.R.Read.remaining c.next_event.new.from in
    let gives = subst (λ (o : Option Event). GivesNext start c.loop.reading now o c.next_event.new.self later) c.in_default.is (c.in_ok-event.ensures.gives start) in
    subst (λ (f : LineFormat). IfSome start (λ text. AreRefusals f text c.loop.refusals.items)) c.loop.invariant.format
    (all_refused start now later c.loop.ops.items c.loop.refusals.items c.loop.outstanding c.loop.reading c.next_event.new.self c.loop.invariant.read gives)

pub returns-in_err-event-clause-fault : goal.returns-in_err-event-clause-fault
returns-in_err-event-clause-fault g c =
    let start = g.R.Read.remaining c.args.from.now in
    let f = c.in_err-event.field-0.0 in
    passed_on c.from_residual.result f (λ (r : Result OperationsTold LinesFault). IfSome start (λ text. IfErr r (IsOperationsFault c.args.format text))) c.from_residual.ensures.1
    (subst (λ (k : LineFormat). IfSome start (λ text. IsOperationsFault k text f)) c.loop.invariant.format
    (line_refused start (g.R.Read.remaining c.loop.from) c.loop.ops.items c.loop.refusals.items c.loop.outstanding c.loop.reading c.next_event.new.self f c.loop.invariant.read (c.in_err-event.ensures.fault start)))

pub returns-in_err-ended-clause-fault : goal.returns-in_err-ended-clause-fault
returns-in_err-ended-clause-fault g c =
    let start = g.R.Read.remaining c.args.from.now in
    let now = g.R.Read.remaining c.loop.from in
    let later = g.R.Read.remaining c.next_event.new.from in
    let f = c.in_err-ended.field-0.0 in
    let gives = subst (λ (o : Option Event). GivesNext start c.loop.reading now o c.next_event.new.self later) c.in-Some.is (c.in_ok-event.ensures.gives start) in
    passed_on c.from_residual-in_err-ended.result f (λ (r : Result OperationsTold LinesFault). IfSome start (λ text. IfErr r (IsOperationsFault c.args.format text)))
    c.from_residual-in_err-ended.ensures.1
    (subst (λ (k : LineFormat). IfSome start (λ text. IsOperationsFault k text f)) (c.next_event.ensures.format ∙ c.loop.invariant.format)
    (event_refused start now later c.loop.ops.items c.loop.refusals.items c.loop.outstanding c.loop.reading c.next_event.new.self c.in-Some.event f c.loop.invariant.read gives c.in_err-ended.ensures.fault))
