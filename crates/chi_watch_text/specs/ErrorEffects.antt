-- what events tell where a request that is answered by an error takes no effect; of a list of events the newest stands first
use Rattle.std.specs.Prelude.{◌≡◌, ℕ, ◌==◌, ◌&&◌, Bool, true, false, if◌then◌else◌, List, [], ◌∷◌, Option, None, Some, is_none, option_map}
use Rattle.std.specs.List.{cons_option}
use Rattle.std.specs.Option.{unwrap_or}
use Rattle.std.specs.BTreeMap.{get}
use Rattle.std.specs.Ordering.{nat_cmp}
use Rattle.chi_events.specs.declared.event.Event.{Event}
use Rattle.chi_events.specs.declared.event.EventKind.{EventKind}
use Rattle.chi_events.specs.declared.event.EventKind.TheVariants as event
use Rattle.chi_events.specs.Operations.{is_whole}
use Rattle.chi_lanes.specs.declared.reply.Reply.{Reply}
use Rattle.chi_watch_text.specs.declared.awaited_data.AwaitedData.{AwaitedData}
use Rattle.chi_watch_text.specs.declared.line_format.ErrorEffect.{ErrorEffect}
use Rattle.chi_watch_text.specs.declared.line_format.ErrorEffect.TheVariants as effect

-- Of the request that took a number last, where its data are still to come: whether it was answered by an error.
abbrev pub failed_by : ℕ → EventKind → Option Bool → Option Bool
failed_by id (event.Request r) before = if r.id == id then (if is_whole r then None else Some false) else before
failed_by id (event.Data p) before = if p.id == id then None else before
failed_by id (event.Reply c) before = if c.id == id && is_none c.reply then option_map (λ was. true) before else before
failed_by id (event.Dropped d) before = if d == id then None else before
failed_by id (event.Refused d reason) before = if d == id then None else before
failed_by id (event.Word told) before = before
failed_by id (event.Final told) before = before
failed_by id (event.Unknown addr len) before = before
failed_by id event.End before = before

unfoldable pub failed : ℕ → List Event → Option Bool
failed id [] = None
failed id (e ∷ older) = failed_by id e.kind (failed id older)

-- An event as it is told, where the requests with these numbers were answered by an error and their data are still to come: an error
-- drops its request, and what comes of that later is not told.
abbrev pub unless : Bool → Event → Option Event
unless true e = None
unless false e = Some e

abbrev pub error_told : Event → ℕ → Option Reply → Option Event
error_told e id None = Some (record { time = e.time; kind = event.Dropped id })
error_told e id (Some reply) = Some e

abbrev pub kind_told : (ℕ → Bool) → Event → EventKind → Option Event
kind_told has_failed e (event.Reply c) = error_told e c.id c.reply
kind_told has_failed e (event.Data p) = unless (has_failed p.id) e
kind_told has_failed e (event.Dropped id) = unless (has_failed id) e
kind_told has_failed e (event.Request r) = Some e
kind_told has_failed e (event.Refused id reason) = Some e
kind_told has_failed e (event.Word told) = Some e
kind_told has_failed e (event.Final told) = Some e
kind_told has_failed e (event.Unknown addr len) = Some e
kind_told has_failed e event.End = Some e

-- the same after other events
abbrev pub told_alone : List Event → Event → Option Event
told_alone older e = kind_told (λ id. unwrap_or (failed id older) false) e e.kind

-- and of events one after the other
unfoldable pub told_without_effect : List Event → List Event → List Event
told_without_effect older [] = []
told_without_effect older (e ∷ later) = cons_option (told_alone older e) (told_without_effect (e ∷ older) later)

-- the events with those that follow
unfoldable pub with_events : List Event → List Event → List Event
with_events older [] = older
with_events older (e ∷ later) = with_events (e ∷ older) later

-- what events tell, by what errors say
abbrev pub told_by_effect : ErrorEffect → List Event → List Event → List Event
told_by_effect effect.Unknown older events = events
told_by_effect effect.None older events = told_without_effect older events

-- what is kept of the events, where errors say something
abbrev pub Awaits : ErrorEffect → List Event → AwaitedData → Type 0
Awaits effect.Unknown events awaited = Unit {0}
Awaits effect.None events awaited = (id : ℕ) → get nat_cmp awaited.requests id ≡ failed id events
