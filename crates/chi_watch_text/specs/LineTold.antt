-- what a line tells, after what was seen by the lines before it
use Rattle.std.specs.Prelude.{ℕ, Bool, true, false, if◌then◌else◌, List, [], ◌∷◌, codes, map, Option, None, Some, is_some, option_and_then, Result, Ok, Err}
use Rattle.serde_json.specs.Data.{Data as Value, Members}
use Rattle.serde_json.specs.Find.{as_object, get}
use Rattle.chi_events.specs.declared.event.Event.{Event}
use Rattle.chi_events.specs.declared.event.EventKind.{EventKind}
use Rattle.chi_events.specs.declared.event.EventKind.TheVariants.{Request, Data, Reply, Dropped, Refused, Word, Final, Unknown, End}
use Rattle.chi_flit_text.specs.FlitText.{object_flit}
use Rattle.chi_flit_text.specs.PointText.{names_point, object_point}
use Rattle.chi_flit_text.specs.declared.fault.FlitLineFault.{FlitLineFault}
use Rattle.chi_flits.specs.Faults.{fault_by}
use Rattle.chi_flits.specs.Outstanding.{has_outstanding}
use Rattle.chi_flits.specs.Told.{told_by}
use Rattle.chi_flits.specs.declared.fault.FlitFault.{FlitFault}
use Rattle.chi_flits.specs.declared.flit.Flit.{Flit}
use Rattle.chi_points.specs.PointFaults.{event_fault}
use Rattle.chi_points.specs.PointedPort.{Seen, after_event, after_flit, after_point, flit_fault, nothing_seen, point_fault, told_by_event, told_by_flit, told_by_point}
use Rattle.chi_points.specs.declared.fault.PointFault.{PointFault}
use Rattle.chi_points.specs.declared.point.Point.{Point}
use Rattle.chi_reading.specs.EventText.{event_text}
use Rattle.chi_reading.specs.Mark.{line_value}
use Rattle.chi_reading.specs.declared.fault.LineFault.{LineFault}
use Rattle.chi_watch_text.specs.ErrorEffects.{told_by_effect, with_events}
use Rattle.chi_watch_text.specs.declared.fault.TellingFault.{TellingFault}
use Rattle.chi_watch_text.specs.declared.fault.TellingFault.TheVariants as fault
use Rattle.chi_watch_text.specs.declared.line_format.ErrorEffect.{ErrorEffect}
use Rattle.chi_watch_text.specs.declared.line_format.ErrorEffect.TheVariants as effect
use Rattle.chi_watch_text.specs.declared.line_format.LineFormat.{LineFormat}
use Rattle.chi_watch_text.specs.declared.line_format.LineFormat.TheVariants.{Events, Flits, PointedFlits}
use Rattle.chi_watch_text.specs.declared.stated.Stated.{Stated}
use Rattle.chi_watch_text.specs.declared.stated.Stated.TheVariants as stated

-- its events, and what was seen by then
pub record Told : Type 0 where
  pub events : List Event
  pub seen : Seen

-- an event of a request
abbrev pub is_of_request : EventKind → Bool
is_of_request (Request r) = true
is_of_request (Data p) = true
is_of_request (Reply c) = true
is_of_request (Dropped id) = true
is_of_request (Refused id reason) = true
is_of_request (Word told) = false
is_of_request (Final told) = false
is_of_request (Unknown addr len) = false
is_of_request End = false

-- of a line that is an event
abbrev pub event_told : Seen → Result Event LineFault → Result Told TellingFault
event_told seen (Ok e) = Ok (record { events = e ∷ []; seen = seen })
event_told seen (Err f) = Err (fault.Event f)

-- the word at the end of a granule at which an operation is outstanding after the flits
abbrev pub is_early : List Flit → EventKind → Bool
is_early flits (Final told) = has_outstanding told.granule flits
is_early flits _ = false

abbrev pub events_of_other : List Flit → Event → List Event
events_of_other flits e = if is_early flits e.kind then [] else e ∷ []

-- Of a line among flits that is an event: those of requests are told by flits, and a word that is early tells nothing.
abbrev pub other_told : Seen → Result Event LineFault → Result Told TellingFault
other_told seen (Ok e) = if is_of_request e.kind then Err fault.OfRequest else Ok (record { events = events_of_other seen.flits e; seen = seen })
other_told seen (Err f) = Err (fault.Event f)

-- with a flit more, where requests have no points
abbrev pub with_flit : Seen → Flit → Seen
with_flit seen f = record { flits = f ∷ seen.flits; points = seen.points }

-- of a flit, by why it cannot come next, if it cannot: all that it tells is of its time
abbrev pub taken_told : Seen → Flit → Option FlitFault → Result Told TellingFault
taken_told seen f None = Ok (record { events = map (λ k. record { time = f.time; kind = k }) (told_by seen.flits f.kind); seen = with_flit seen f })
taken_told seen f (Some why) = Err (fault.Port why)

-- of an object that states a flit; a point is refused
abbrev pub flit_told : Seen → Result Stated FlitLineFault → Result Told TellingFault
flit_told seen (Ok (stated.Flit f)) = taken_told seen f (fault_by seen.flits f)
flit_told seen (Ok (stated.Point p)) = Err fault.OfPoint
flit_told seen (Err f) = Err (fault.Flit f)

-- an object that names a channel states a flit or a point
abbrev pub names_channel : Value → Bool
names_channel d = is_some (get (codes "channel") d)

abbrev pub of_flit : Result Flit FlitLineFault → Result Stated FlitLineFault
of_flit (Ok f) = Ok (stated.Flit f)
of_flit (Err f) = Err f

abbrev pub of_point : Result Point FlitLineFault → Result Stated FlitLineFault
of_point (Ok p) = Ok (stated.Point p)
of_point (Err f) = Err f

abbrev pub stated_of : ℕ → Value → Members → Result Stated FlitLineFault
stated_of number d members = if names_point d then of_point (object_point d members) else of_flit (object_flit number d members)

abbrev pub stated_by : ℕ → Value → Option Members → Option (Result Stated FlitLineFault)
stated_by number d None = None
stated_by number d (Some members) = if names_channel d then Some (stated_of number d members) else None

-- what the line with a number states, or its fault, where it is to state a flit or a point
abbrev pub stated_in : ℕ → List ℕ → Option (Result Stated FlitLineFault)
stated_in number text = option_and_then (λ d. stated_by number d (as_object d)) (line_value number text)

-- of a line among flits
abbrev pub told_among : Seen → ℕ → List ℕ → Option (Result Stated FlitLineFault) → Result Told TellingFault
told_among seen number text None = other_told seen (event_text number text)
told_among seen number text (Some stated) = flit_told seen stated

-- ---- where requests have points

-- of what is seen after a line and the events that it tells, by why it cannot come next, if it cannot
abbrev pub pointed_by : List Event → Seen → Option PointFault → Result Told TellingFault
pointed_by events seen None = Ok (record { events = events; seen = seen })
pointed_by events seen (Some why) = Err (fault.Points why)

-- of an event of no request
abbrev pub event_pointed : Seen → Event → Result Told TellingFault
event_pointed seen e = pointed_by (told_by_event seen.points e) (after_event seen e) (event_fault seen.points e)

-- of a line that is an event; a word that is early tells nothing
abbrev pub other_pointed_by : Seen → Event → Result Told TellingFault
other_pointed_by seen e =
    if is_of_request e.kind then Err fault.OfRequest
    else if is_early seen.flits e.kind then Ok (record { events = []; seen = seen })
    else event_pointed seen e

abbrev pub other_pointed : Seen → Result Event LineFault → Result Told TellingFault
other_pointed seen (Ok e) = other_pointed_by seen e
other_pointed seen (Err f) = Err (fault.Event f)

-- of an object that states a flit or a point
abbrev pub stated_pointed : Seen → Result Stated FlitLineFault → Result Told TellingFault
stated_pointed seen (Ok (stated.Flit f)) = pointed_by (told_by_flit seen f) (after_flit seen f) (flit_fault seen f)
stated_pointed seen (Ok (stated.Point p)) = pointed_by (told_by_point seen p) (after_point seen p) (point_fault seen p)
stated_pointed seen (Err f) = Err (fault.Flit f)

-- of a line among flits and points
abbrev pub pointed_among : Seen → ℕ → List ℕ → Option (Result Stated FlitLineFault) → Result Told TellingFault
pointed_among seen number text None = other_pointed seen (event_text number text)
pointed_among seen number text (Some stated) = stated_pointed seen stated

-- ---- of the line with a number

unfoldable pub line_told : LineFormat → Seen → ℕ → List ℕ → Result Told TellingFault
line_told Events seen number text = event_told seen (event_text number text)
line_told (Flits errors) seen number text = told_among seen number text (stated_in number text)
line_told (PointedFlits errors) seen number text = pointed_among seen number text (stated_in number text)

-- The time of the flit that a line with a number states, if it states one. Where requests have points, one may still be told of a
-- time before that.
abbrev pub time_of : Option (Result Stated FlitLineFault) → Option ℕ
time_of None = None
time_of (Some (Ok (stated.Flit f))) = Some f.time
time_of (Some (Ok (stated.Point p))) = None
time_of (Some (Err why)) = None

abbrev pub time_stated : LineFormat → ℕ → List ℕ → Option ℕ
time_stated Events number text = None
time_stated (Flits errors) number text = time_of (stated_in number text)
time_stated (PointedFlits errors) number text = None

-- ---- where an error may say that its request took no effect

abbrev pub effect_of : LineFormat → ErrorEffect
effect_of Events = effect.Unknown
effect_of (Flits errors) = errors
effect_of (PointedFlits errors) = errors

-- what was read by some lines: what was seen, and what they told but for errors, of which the newest stands first
pub record Read : Type 0 where
  pub seen : Seen
  pub events : List Event

abbrev pub read_at_start : Read
read_at_start = record { seen = nothing_seen; events = [] }

-- the events of a line, and what was read by then
pub record Taken : Type 0 where
  pub events : List Event
  pub read : Read

abbrev pub taken_by : ErrorEffect → List Event → Result Told TellingFault → Result Taken TellingFault
taken_by errors older (Ok told) =
    Ok (record { events = told_by_effect errors older told.events; read = record { seen = told.seen; events = with_events older told.events } })
taken_by errors older (Err f) = Err f

abbrev pub line_taken : LineFormat → Read → ℕ → List ℕ → Result Taken TellingFault
line_taken format before number text = taken_by (effect_of format) before.events (line_told format before.seen number text)
