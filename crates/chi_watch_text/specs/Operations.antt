-- what comes of events that are read line by line as a trace
use Rattle.std.specs.Prelude.{◌≡◌, ℕ, List, ◌∷◌, Some, IsPermutation}
use Rattle.chi_fields.specs.declared.refusal.Refusal.{Refusal}
use Rattle.chi_trace.specs.declared.operation.Operation.{Operation}
use Rattle.chi_trace.specs.Explains.{IsTrace}
use Rattle.chi_events.specs.declared.event.Event.{Event}
use Rattle.chi_events.specs.Operations.{operations, refusals_told}
use Rattle.chi_events.specs.Outstanding.{OutstandingValue, Tells, fault_of}
use Rattle.chi_watch.specs.declared.fault.WatchFault.{WatchFault}
use Rattle.chi_watch.specs.declared.fault.WatchFault.TheVariants as watch_fault
use Rattle.chi_watch_text.specs.Lines.{AreTold, AreToldAll}
use Rattle.chi_watch_text.specs.Reading.{IsFirstRefused}
use Rattle.chi_watch_text.specs.declared.fault.LinesFault.{LinesFault}
use Rattle.chi_watch_text.specs.declared.fault.LinesFault.TheVariants as fault
use Rattle.chi_watch_text.specs.declared.line_format.LineFormat.{LineFormat}

-- These are the operations that the events tell, in the order of their starts.
pub record AreInOrder (events : List Event) (ops : List Operation) : Type 0 where
  pub trace : IsTrace ops
  pub same : IsPermutation (operations events) ops

-- all lines of the text tell events, and these are their operations
abbrev pub AreOperations : LineFormat → List ℕ → List Operation → Type 0
AreOperations format text ops = (events : List Event) × AreToldAll format text events × AreInOrder events ops

-- all lines of the text tell events, and these are the reasons for which requests were refused, in some order
abbrev pub AreRefusals : LineFormat → List ℕ → List Refusal → Type 0
AreRefusals format text refusals = (events : List Event) × AreToldAll format text events × IsPermutation (refusals_told events) refusals

-- the outstanding requests refuse an event for this reason; what a watch says of words is none
abbrev pub Refuses : OutstandingValue → Event → WatchFault → Type 0
Refuses o event (watch_fault.Event f) = fault_of o event ≡ Some f
Refuses o event watch_fault.WordLate = ⊥
Refuses o event watch_fault.FinalTwice = ⊥
Refuses o event watch_fault.WordEarly = ⊥
Refuses o event watch_fault.FinalEarly = ⊥
Refuses o event watch_fault.AfterFinal = ⊥
Refuses o event watch_fault.TooLong = ⊥
Refuses o event watch_fault.Memory = ⊥

-- why the event of the line with this number is not taken
abbrev pub IsTakingFault : OutstandingValue → Event → ℕ → LinesFault → Type 0
IsTakingFault o event number fault.Read = ⊥
IsTakingFault o event number (fault.Line n f) = ⊥
IsTakingFault o event number (fault.Event n f) = (n ≡ number) × Refuses o event f
IsTakingFault o event number fault.TooManyLines = ⊥
IsTakingFault o event number fault.Write = ⊥
IsTakingFault o event number fault.Memory = Unit {0}

-- the line with this number tells the first event that cannot come next, for this reason
abbrev pub IsNotNext : LineFormat → List ℕ → ℕ → WatchFault → Type 0
IsNotNext format text number f =
    (events : List Event) × (e : Event) × (more : List Event) × (rest : List ℕ) × AreTold format text number events (e ∷ more) rest
    × ((ended : List Operation) × (o : OutstandingValue) × Tells events ended o × Refuses o e f)

-- why a text tells no operations
abbrev pub IsOperationsFault : LineFormat → List ℕ → LinesFault → Type 0
IsOperationsFault format text fault.Read = Unit {0}
IsOperationsFault format text (fault.Line number f) = (events : List Event) × IsFirstRefused format text events number f
IsOperationsFault format text (fault.Event number f) = IsNotNext format text number f
IsOperationsFault format text fault.TooManyLines = Unit {0}
IsOperationsFault format text fault.Write = ⊥
IsOperationsFault format text fault.Memory = Unit {0}
