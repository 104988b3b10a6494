-- the events that flits tell can come in turn
use Rattle.std.specs.Prelude.{◌≡◌, ◌^◌, ◌<◌, ◌≤◌, ◌⊎◌, Bool, true, false, List, [], ◌∷◌, ◌++◌, filter, All, Option, None, Some, IfSome}
use Rattle.std.specs.List.Sorted.{IsNonDecreasingBy}
use Rattle.chi_fields.specs.declared.refusal.Refusal.TheVariants as refusal
use Rattle.chi_trace.specs.RequestFields.{IsPacket}
use Rattle.chi_trace.specs.declared.operation.Operation.{Operation}
use Rattle.chi_events.specs.declared.event.Event.{Event}
use Rattle.chi_events.specs.declared.event.EventKind.{EventKind}
use Rattle.chi_events.specs.declared.event.EventKind.TheVariants as event
use Rattle.chi_events.specs.declared.fault.EventFault.{EventFault}
use Rattle.chi_events.specs.declared.fault.EventFault.TheVariants as fault
use Rattle.chi_events.specs.declared.outstanding.Open.{Open}
use Rattle.chi_events.specs.Outstanding.{IsEvent, OutstandingValue, Tells, fault_of, request_about}
use Rattle.chi_flits.specs.declared.flit.Chunk.{Chunk}
use Rattle.chi_flits.specs.declared.flit.Flit.{Flit}
use Rattle.chi_flits.specs.declared.flit.FlitKind.{FlitKind}
use Rattle.chi_flits.specs.declared.flit.FlitKind.TheVariants as kind
use Rattle.chi_flits.specs.Faults.{fault_by}
use Rattle.chi_flits.specs.Opcodes.{is_atomic}
use Rattle.chi_flits.specs.Told.{events_told}

-- sixteen bytes with their byte enables are a packet
abbrev pub IsChunk : Chunk → Type 0
IsChunk c = IsPacket c.be c.lanes

-- so are those of data to the home, which events tell
abbrev pub HasChunks : FlitKind → Type 0
HasChunks (kind.WriteData d) = All (λ c. IfSome c IsChunk) d.chunks
HasChunks _ = Unit {0}

-- what is true of every flit, since its numbers fit their types
pub record IsFlit (f : Flit) : Type 0 where
  pub time : f.time < 2 ^ 64
  pub chunks : HasChunks f.kind

-- A port can take the flits, of which the newest stands first: each of them can come after those before it.
unfoldable pub CanBeTaken : List Flit → Type 0
CanBeTaken [] = Unit {0}
CanBeTaken (f ∷ older) = IsFlit f × (fault_by older f ≡ None) × CanBeTaken older

-- An event that comes after others has this fault, or none: with the requests that are outstanding after these, whichever last time up
-- to its own is kept.
pub record HasFault (before : List Event) (e : Event) (f : Option EventFault) : Type 0 where
  pub ended : List Operation
  pub outstanding : OutstandingValue
  pub tells : Tells before ended outstanding
  pub later : outstanding.time ≤ e.time
  pub fault : (past : List Operation) (o : OutstandingValue) → Tells before past o → o.time ≤ e.time → fault_of o e ≡ f

-- after some events, each of these can come after all before it
unfoldable pub ComeInTurn : List Event → List Event → Type 0
ComeInTurn before [] = Unit {0}
ComeInTurn before (e ∷ events) = HasFault before e None × ComeInTurn (before ++ e ∷ []) events

-- events that are accepted, the requests that are outstanding then, and the operations that had ended
pub record AreAccepted (events : List Event) : Type 0 where
  pub in_turn : ComeInTurn [] events
  pub ended : List Operation
  pub outstanding : OutstandingValue
  pub tells : Tells events ended outstanding

-- The first events are accepted, and the next one is refused: it is about an atomic, which then has its data and its completion, and
-- byte enables that a home refuses.
pub record AreRefused (events : List Event) : Type 0 where
  pub first : List Event
  pub event : Event
  pub rest : List Event
  pub parts : events ≡ first ++ event ∷ rest
  pub accepted : AreAccepted first
  pub request : Open
  pub about : request_about accepted.outstanding.requests event.kind ≡ Some request
  pub atomic : is_atomic request.fields.opcode ≡ true
  pub fault : HasFault first event (Some (fault.Refused refusal.BadByteEnable))

-- The events that flits tell are accepted, or one of them is refused for the byte enables of an atomic: none has another fault.
abbrev pub EventsAreAccepted : Type 0
EventsAreAccepted = (flits : List Flit) → CanBeTaken flits → AreAccepted (events_told flits) ⊎ AreRefused (events_told flits)

-- an event of a request
abbrev pub is_of_request : EventKind → Bool
is_of_request (event.Request r) = true
is_of_request (event.Data p) = true
is_of_request (event.Reply c) = true
is_of_request (event.Dropped id) = true
is_of_request (event.Refused id reason) = true
is_of_request _ = false

-- Events stand in the order of their times, and those of requests among them are the ones that flits tell.
pub record AreToldAmong (flits : List Flit) (events : List Event) : Type 0 where
  pub bounds : All IsEvent events
  pub in_time : IsNonDecreasingBy (λ (e : Event). e.time) events
  pub told : filter (λ e. is_of_request e.kind) events ≡ filter (λ e. is_of_request e.kind) (events_told flits)

-- such events are accepted, or one of them is refused, as those of the flits alone are
abbrev pub EventsAmongOthersAreAccepted : Type 0
EventsAmongOthersAreAccepted = (flits : List Flit) (events : List Event) → CanBeTaken flits → AreToldAmong flits events → AreAccepted events ⊎ AreRefused events
