-- events are told one after the other
use Rattle.std.proofs.lemmas.List.{get_or_default}
use Rattle.chi_watch_text.proofs.ErrorsTold.{all_told, none_told, one_told}
use Rattle.chi_watch_text.proofs.awaited_data.AwaitedData.told.Goals as goal

pub loop-event-init : goal.loop-event-init
loop-event-init c older awaits = none_told older c.args.events.now c.new-told.result.items c.args.self.now c.new-told.ensures.items awaits

pub loop-event-preserved : goal.loop-event-preserved
loop-event-preserved c older awaits =
    one_told older c.args.events.now c.loop-event.told.items c.add_some.new.items.items c.loop-event.event-index _ c.told_alone.result c.loop-event.self c.note.new.self c.loop-event-test.true
    (get_or_default c.args.events.now c.loop-event.event-index _ _ c.loop-event-test.true) c.told_alone.ensures
    c.in_ok-add_some.ensures c.in_ok-note.ensures (c.loop-event.invariant older awaits)

pub returns : goal.returns
returns c older awaits = all_told older c.args.events.now c.loop-event.told.items c.loop-event.event-index c.loop-event.self c.loop-event-test.false (c.loop-event.invariant older awaits)
