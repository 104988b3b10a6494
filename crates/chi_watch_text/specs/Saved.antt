-- the lines of events that tell of one granule
use Rattle.std.specs.Prelude.{◌≡◌, ℕ, ◌+◌, ◌/◌, ◌==◌, Bool, true, false, if◌then◌else◌, List, [], ◌∷◌, ◌++◌, Ok}
use Rattle.chi_events.specs.declared.event.Event.{Event}
use Rattle.chi_events.specs.declared.event.EventKind.{EventKind}
use Rattle.chi_events.specs.declared.event.EventKind.TheVariants.{Request, Data, Reply, Dropped, Refused, Word, Final, Unknown, End}
use Rattle.chi_watch.specs.WordsTold.{covers}
use Rattle.chi_reading.specs.EventText.{event_text}
use Rattle.chi_watch_text.specs.Lines.{AreLines}
use Rattle.chi_watch_text.specs.declared.fault.LinesFault.{LinesFault}
use Rattle.chi_watch_text.specs.declared.fault.LinesFault.TheVariants as fault

-- before any event no number is that of a request of the granule
abbrev pub no_number : ℕ → Bool
no_number id = false

-- after an event: a number is, where the last request that had it lies there
abbrev pub numbers_after : ℕ → (ℕ → Bool) → EventKind → ℕ → Bool
numbers_after g numbers (Request r) id = if r.id == id then r.fields.addr / 8 == g else numbers id
numbers_after g numbers _ id = numbers id

-- An event tells of a granule, where these numbers are those of its requests: a request that lies there; what is told of such a
-- request; its words; that something which is not told may have written there; and the end.
abbrev pub tells_of : ℕ → (ℕ → Bool) → EventKind → Bool
tells_of g numbers (Request r) = r.fields.addr / 8 == g
tells_of g numbers (Data p) = numbers p.id
tells_of g numbers (Reply c) = numbers c.id
tells_of g numbers (Dropped id) = numbers id
tells_of g numbers (Refused id reason) = numbers id
tells_of g numbers (Word told) = told.granule == g
tells_of g numbers (Final told) = told.granule == g
tells_of g numbers (Unknown addr len) = covers g (Unknown addr len)
tells_of g numbers End = true

-- a line, where its event tells of the granule
abbrev pub line_about : ℕ → (ℕ → Bool) → List ℕ → EventKind → List ℕ
line_about g numbers line kind = if tells_of g numbers kind then line else []

-- of these lines, each with its event, those that tell of the granule, one after the other
unfoldable pub lines_about : ℕ → (ℕ → Bool) → List (List ℕ) → List Event → List ℕ
lines_about g numbers [] events = []
lines_about g numbers (line ∷ lines) [] = []
lines_about g numbers (line ∷ lines) (e ∷ events) = line_about g numbers line e.kind ++ lines_about g (numbers_after g numbers e.kind) lines events

-- each line tells its event, where the first has this number
unfoldable pub AreOf : ℕ → List (List ℕ) → List Event → Type 0
AreOf number [] [] = Unit {0}
AreOf number (line ∷ lines) (e ∷ events) = (event_text number line ≡ Ok e) × AreOf (number + 1) lines events
AreOf number lines events = ⊥

-- the text is these lines, and each tells its event
pub record AreWhole (text : List ℕ) (lines : List (List ℕ)) (events : List Event) : Type 0 where
  pub are_lines : AreLines text lines []
  pub are_events : AreOf 1 lines events

-- of the lines that the text is, those that tell of the granule
abbrev pub IsSaved : List ℕ → ℕ → List ℕ → Type 0
IsSaved text g saved = (lines : List (List ℕ)) (events : List Event) → AreWhole text lines events → saved ≡ lines_about g no_number lines events

-- a fault that is of no line
abbrev pub IsOfNoLine : LinesFault → Type 0
IsOfNoLine fault.Read = Unit {0}
IsOfNoLine (fault.Line number f) = ⊥
IsOfNoLine (fault.Event number f) = ⊥
IsOfNoLine fault.TooManyLines = Unit {0}
IsOfNoLine fault.Write = ⊥
IsOfNoLine fault.Memory = Unit {0}

-- where each line of the text tells an event the fault is of none
abbrev pub IsSavingFault : List ℕ → LinesFault → Type 0
IsSavingFault text f = (lines : List (List ℕ)) (events : List Event) → AreWhole text lines events → IsOfNoLine f
