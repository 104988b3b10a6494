-- the events of each request
use Rattle.std.specs.Prelude.{ℕ, ◌==◌, ◌++◌, Bool, false, if◌then◌else◌, List, [], ◌∷◌, Option, Some, None}
use Rattle.chi_events.specs.declared.event.Event.{Event}
use Rattle.chi_events.specs.declared.event.EventKind.{EventKind}
use Rattle.chi_events.specs.declared.event.EventKind.TheVariants.{Request, Data, Reply, Dropped, Refused, Word, Final, Unknown, End}
use Rattle.chi_events.specs.declared.event.Requested.{Requested}

-- the request that was taken, where one was
abbrev pub requested : EventKind → Option Requested
requested (Request r) = Some r
requested (Data p) = None
requested (Reply c) = None
requested (Dropped id) = None
requested (Refused id reason) = None
requested (Word w) = None
requested (Final w) = None
requested (Unknown addr len) = None
requested End = None

abbrev pub has_number : ℕ → Option Requested → Bool
has_number id None = false
has_number id (Some r) = r.id == id

-- a request of this number was taken
abbrev pub is_request_of : ℕ → Event → Bool
is_request_of id e = has_number id (requested e.kind)

-- it is told of the request of this number
abbrev pub kind_is_about : ℕ → EventKind → Bool
kind_is_about id (Request r) = false
kind_is_about id (Data p) = p.id == id
kind_is_about id (Reply c) = c.id == id
kind_is_about id (Dropped other) = other == id
kind_is_about id (Refused other reason) = other == id
kind_is_about id (Word w) = false
kind_is_about id (Final w) = false
kind_is_about id (Unknown addr len) = false
kind_is_about id End = false

abbrev pub is_about : ℕ → Event → Bool
is_about id e = kind_is_about id e.kind

-- what is told of a request of this number by the events after it: those about the number, up to the next request of it
unfoldable pub later_of : ℕ → List Event → List Event
later_of id [] = []
later_of id (e ∷ events) =
    if is_request_of id e then [] else if is_about id e then e ∷ later_of id events else later_of id events

-- a request that was taken, when it was, and what is told of it later
pub record RequestEvents : Type 0 where
  pub time : ℕ
  pub request : Requested
  pub later : List Event

abbrev pub request_events : ℕ → Option Requested → List Event → List RequestEvents
request_events time None events = []
request_events time (Some r) events = record { time = time; request = r; later = later_of r.id events } ∷ []

-- the events of each request, in the order in which the requests were taken
unfoldable pub each_request : List Event → List RequestEvents
each_request [] = []
each_request (e ∷ events) = request_events e.time (requested e.kind) events ++ each_request events
