-- what a reading of lines has given, and why it gives no more
use Rattle.std.specs.Prelude.{◌≡◌, ℕ, ◌+◌, ◌<◌, true, List, [], ◌∷◌, ◌++◌, Option, None, Some, IfSome, IsSomeAnd, Result, Ok, Err}
use Rattle.std.specs.Io.BufRead.{take_through}
use Rattle.chi_events.specs.declared.event.Event.{Event}
use Rattle.chi_points.specs.PointedPort.{Follows, Seen}
use Rattle.chi_points.specs.declared.pointed_port.PointedPort.{PointedPort}
use Rattle.chi_watch_text.specs.ErrorEffects.{Awaits}
use Rattle.chi_watch_text.specs.LineTold.{Read, Told, effect_of, line_taken, line_told, time_stated}
use Rattle.chi_watch_text.specs.Lines.{AreTold, is_blank}
use Rattle.chi_watch_text.specs.declared.awaited_data.AwaitedData.{AwaitedData}
use Rattle.chi_watch_text.specs.declared.fault.LinesFault.{LinesFault}
use Rattle.chi_watch_text.specs.declared.fault.LinesFault.TheVariants as fault
use Rattle.chi_watch_text.specs.declared.fault.TellingFault.{TellingFault}
use Rattle.chi_watch_text.specs.declared.line_format.LineFormat.{LineFormat}
use Rattle.chi_watch_text.specs.declared.reading.Reading.{Reading}

-- at a port that has seen something, what is told after that is these events, and it has seen what was seen then
abbrev pub TellsBy : (Seen → Result Told TellingFault) → PointedPort → List Event → PointedPort → Type 0
TellsBy told old events new = (seen : Seen) → Follows seen old → (after : Seen) × (told seen ≡ Ok (record { events = events; seen = after })) × Follows after new

-- why the line with this number is refused, if memory does not end
abbrev pub IsLineFault : Result Told TellingFault → ℕ → LinesFault → Type 0
IsLineFault told number fault.Read = ⊥
IsLineFault told number (fault.Line n f) = (n ≡ number) × (told ≡ Err f)
IsLineFault told number (fault.Event n f) = ⊥
IsLineFault told number fault.TooManyLines = ⊥
IsLineFault told number fault.Write = ⊥
IsLineFault told number fault.Memory = Unit {0}

abbrev pub RefusesBy : (Seen → Result Told TellingFault) → PointedPort → ℕ → LinesFault → Type 0
RefusesBy told old number f = (seen : Seen) → Follows seen old → IsLineFault (told seen) number f

-- a port that has seen what was read, and what is kept of the events for what errors say
pub record Keeps (format : LineFormat) (read : Read) (port : PointedPort) (awaited : AwaitedData) : Type 0 where
  pub seen : Follows read.seen port
  pub awaits : Awaits (effect_of format) read.events awaited

-- after what was read the line with this number tells these events
abbrev pub TakesBy : LineFormat → ℕ → List ℕ → PointedPort → AwaitedData → List Event → PointedPort → AwaitedData → Type 0
TakesBy format number line port awaited events new kept =
    (read : Read) → Keeps format read port awaited → (after : Read) × (line_taken format read number line ≡ Ok (record { events = events; read = after })) × Keeps format after new kept

-- The reading has given these events of the lines that it read, and the rest of the text follows.
pub record HasGiven (text : List ℕ) (events : List Event) (r : Reading) (rest : List ℕ) : Type 0 where
  pub told : AreTold r.format text r.number events r.pending.items rest
  pub keeps : Keeps r.format told.read r.port r.awaited

-- the same of a text that may not be known
abbrev pub HasGivenOf : Option (List ℕ) → List Event → Reading → Option (List ℕ) → Type 0
HasGivenOf None events r rest = Unit {0}
HasGivenOf (Some text) events r None = ⊥
HasGivenOf (Some text) events r (Some rest) = HasGiven text events r rest

-- a text that may not be known begins with these bytes, and the rest follows
abbrev pub BeginsWith : Option (List ℕ) → List ℕ → Option (List ℕ) → Type 0
BeginsWith None bytes rest = Unit {0}
BeginsWith (Some text) bytes None = ⊥
BeginsWith (Some text) bytes (Some rest) = text ≡ bytes ++ rest

-- the line with this number is the first that is refused for what it states
abbrev pub IsFirstRefused : LineFormat → List ℕ → List Event → ℕ → TellingFault → Type 0
IsFirstRefused format text events number f =
    (before : ℕ) × (rest : List ℕ) × (told : AreTold format text before events [] rest) × (before + 1 ≡ number)
    × (line_told format told.read.seen number (take_through 10 rest) ≡ Err f)

-- why a text of which these events are given tells no more
abbrev pub IsReadingFault : LineFormat → List ℕ → List Event → LinesFault → Type 0
IsReadingFault format text events fault.Read = Unit {0}
IsReadingFault format text events (fault.Line number f) = IsFirstRefused format text events number f
IsReadingFault format text events (fault.Event number f) = ⊥
IsReadingFault format text events fault.TooManyLines = Unit {0}
IsReadingFault format text events fault.Write = ⊥
IsReadingFault format text events fault.Memory = Unit {0}

-- after the events that were given the line that was read last tells this one, and then those that are pending
abbrev pub IsOfLast : Option (List ℕ) → List Event → Event → Reading → Option (List ℕ) → Type 0
IsOfLast None events e r rest = Unit {0}
IsOfLast (Some text) events e r None = ⊥
IsOfLast (Some text) events e r (Some rest) = AreTold r.format text r.number events (e ∷ r.pending.items) rest

-- The reading has given all events that the text tells.
pub record HasGivenAll (format : LineFormat) (text : List ℕ) (events : List Event) (r : Reading) : Type 0 where
  pub rest : List ℕ
  pub told : AreTold format text r.number events [] rest
  pub blank : is_blank rest ≡ true
  pub seen : Follows told.read.seen r.port

-- After the events that were given this one is given next, or the text tells no more.
abbrev pub GivesNext : Option (List ℕ) → Reading → Option (List ℕ) → Option Event → Reading → Option (List ℕ) → Type 0
GivesNext start old now None new later = (events : List Event) → HasGivenOf start events old now → IfSome start (λ text. HasGivenAll old.format text events new)
GivesNext start old now (Some e) new later =
    (events : List Event) → HasGivenOf start events old now → HasGivenOf start (events ++ e ∷ []) new later × IsOfLast start events e new later

-- where a line is refused it is the one that was read last
abbrev pub IsAtRefused : List ℕ → List Event → Reading → LinesFault → Type 0
IsAtRefused text events r fault.Read = Unit {0}
IsAtRefused text events r (fault.Line number f) = (rest : List ℕ) × AreTold r.format text r.number events [] rest × (r.line.items ≡ take_through 10 rest)
IsAtRefused text events r (fault.Event number f) = Unit {0}
IsAtRefused text events r fault.TooManyLines = Unit {0}
IsAtRefused text events r fault.Write = Unit {0}
IsAtRefused text events r fault.Memory = Unit {0}

-- or none is for this reason
abbrev pub FailsNext : Option (List ℕ) → Reading → Option (List ℕ) → Reading → LinesFault → Type 0
FailsNext start old now new f = (events : List Event) → HasGivenOf start events old now → IfSome start (λ text. IsReadingFault old.format text events f × IsAtRefused text events new f)

-- the line that is refused states a flit of a later time
abbrev pub IsRefusedLater : Reading → LinesFault → ℕ → Type 0
IsRefusedLater r fault.Read time = ⊥
IsRefusedLater r (fault.Line number f) time = IsSomeAnd (time_stated r.format (r.number + 1) r.line.items) (λ t. time < t)
IsRefusedLater r (fault.Event number f) time = ⊥
IsRefusedLater r fault.TooManyLines time = ⊥
IsRefusedLater r fault.Write time = ⊥
IsRefusedLater r fault.Memory time = ⊥
