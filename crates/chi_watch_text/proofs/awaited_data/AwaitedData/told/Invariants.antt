-- the events so far are told
use Rattle.std.proofs.Common.{List}
use Rattle.chi_events.specs.declared.event.Event.{Event}
use Rattle.chi_watch_text.specs.ErrorEffects.{Awaits}
use Rattle.chi_watch_text.specs.declared.line_format.ErrorEffect.TheVariants as effect
use Rattle.chi_watch_text.proofs.ErrorsTold.{AreToldSoFar}
use Rattle.chi_watch_text.proofs.awaited_data.AwaitedData.told.Given as goal

abbrev pub invariant-loop-event : goal.invariant-loop-event
invariant-loop-event l = (older : List Event) → Awaits effect.None older l.fn.self → AreToldSoFar older l.events l.event-index l.told.items l.self
