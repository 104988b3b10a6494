-- requests that are outstanding, and why an event cannot come next
use Rattle.std.specs.Prelude.{◌≡◌, ℕ, ◌+◌, ◌-◌, ◌^◌, ◌<◌, ◌≤◌, ◌==◌, ◌⊎◌, nat_lt, Bool, true, false, not, ◌&&◌, ◌||◌, if◌then◌else◌, List, map, filter, filter_map, find, All, AllPairs, Contains, Option, Some, None, IfSome, is_some, is_none, option_map, option_and_then, Result, IsPermutation}
use Rattle.std.specs.List.Sorted.{IsNonDecreasingBy}
use Rattle.std.specs.Option.{option_or}
use Rattle.std.specs.Result.{result_err}
use Rattle.chi_fields.specs.Access.{Access}
use Rattle.chi_fields.specs.Extent.{Extent}
use Rattle.chi_fields.specs.declared.refusal.Refusal.{Refusal}
use Rattle.chi_fields.specs.declared.refusal.Refusal.TheVariants as refusal
use Rattle.chi_lanes.specs.declared.reply.Reply.{Reply}
use Rattle.chi_trace.specs.RequestFields.{IsPacket, access_of, as_operation}
use Rattle.chi_trace.specs.declared.request_fields.RequestFields.{RequestFields}
use Rattle.chi_trace.specs.declared.operation.Operation.{Operation}
use Rattle.chi_events.specs.declared.event.Completion.{Completion}
use Rattle.chi_events.specs.declared.event.Event.{Event}
use Rattle.chi_events.specs.declared.event.EventKind.{EventKind}
use Rattle.chi_events.specs.declared.event.EventKind.TheVariants as event_kind
use Rattle.chi_events.specs.declared.event.Packet.{Packet}
use Rattle.chi_events.specs.declared.event.Requested.{Requested}
use Rattle.chi_events.specs.declared.fault.EventFault.{EventFault}
use Rattle.chi_events.specs.declared.fault.EventFault.TheVariants as fault
use Rattle.chi_events.specs.declared.outstanding.Open.{Open}
use Rattle.chi_events.specs.Operations.{access_told, is_outstanding, operation_of, refusal_of, refusal_told, reply_told, waits_for_data, with_packet}
use Rattle.chi_events.specs.RequestEvents.{RequestEvents, each_request, requested}

-- the outstanding requests in the order in which they were taken, and the time of the last event
pub record OutstandingValue : Type 0 where
  pub requests : List Open
  pub time : ℕ

-- it was taken by now, and its access, once its data have come, is at its address and within 2^52 bytes
pub record IsOpen (time : ℕ) (o : Open) : Type 0 where
  pub start : o.start ≤ time
  pub at : IfSome o.access (λ access. access.addr ≡ o.fields.addr)
  pub within : IfSome o.access (λ access. access.addr + access.len ≤ 2 ^ 52)

-- what is kept of a request
abbrev pub open_of : RequestEvents → Open
open_of t = record {
  id = t.request.id;
  start = t.time;
  fields = t.request.fields;
  is_whole = not (waits_for_data t);
  refusal = refusal_told t;
  access = option_map (λ a. a.access) (access_told t);
  completion = option_map (λ r. r.reply) (reply_told t);
}

-- the operation that an outstanding request is, once its data have come: it is open
abbrev pub open_operation : Open → Option Operation
open_operation o = option_map (λ access. as_operation o.fields access o.start (2 ^ 64 - 1) None) o.access

-- the data that an event tells are a packet
abbrev pub HasPacket : EventKind → Type 0
HasPacket (event_kind.Request r) = IsPacket r.fields.be r.fields.lanes
HasPacket (event_kind.Data p) = IsPacket p.be p.lanes
HasPacket _ = Unit {0}

-- the word that it tells is one
abbrev pub HasWord : EventKind → Type 0
HasWord (event_kind.Word told) = told.word < 2 ^ 64
HasWord (event_kind.Final told) = told.word < 2 ^ 64
HasWord _ = Unit {0}

-- what is true of every event, since its numbers fit their types
pub record IsEvent (e : Event) : Type 0 where
  pub time : e.time < 2 ^ 64
  pub packet : HasPacket e.kind
  pub word : HasWord e.kind

-- a request whose completion has left was accepted: a home of all addresses does not refuse it, as far as that is decided
pub record IsAccepted (t : RequestEvents) : Type 0 where
  pub decided : is_some (reply_told t) ≡ true → refusal_told t ≡ None

-- These requests are outstanding after the events, and these operations had ended, in some order. An outstanding request is the
-- last of its number.
pub record Tells (events : List Event) (ended : List Operation) (o : OutstandingValue) : Type 0 where
  pub bounds : All IsEvent events
  pub in_time : IsNonDecreasingBy (λ (e : Event). e.time) events
  pub times : All (λ e. e.time ≤ o.time) events
  pub requests : o.requests ≡ map open_of (filter is_outstanding (each_request events))
  pub ends : IsPermutation (filter_map operation_of (filter (λ t. not (is_outstanding t)) (each_request events))) ended
  pub last : AllPairs (λ t later. is_outstanding t ≡ true → t.request.id ≡ later.request.id → ⊥) (each_request events)
  pub accepted : All IsAccepted (each_request events)

-- the outstanding request with this number
abbrev pub open_with : ℕ → List Open → Option Open
open_with id requests = find (λ o. o.id == id) requests

-- the outstanding request that an event of this kind is about
abbrev pub request_about : List Open → EventKind → Option Open
request_about requests (event_kind.Data p) = open_with p.id requests
request_about requests (event_kind.Reply c) = open_with c.id requests
request_about requests (event_kind.Dropped id) = open_with id requests
request_about requests (event_kind.Refused id reason) = open_with id requests
request_about requests _ = None

abbrev pub request_fault : Option Open → Option EventFault
request_fault (Some o) = Some fault.NumberTaken
request_fault None = None

-- why a request has no completion: once that has left, a home has accepted the request
abbrev pub ended_fault : Option Refusal → Option (Option Reply) → Option EventFault
ended_fault refused None = None
ended_fault None (Some seen) = None
ended_fault (Some reason) (Some seen) = Some (fault.Refused reason)

-- the same with its data, with which a home decides so
abbrev pub decided_fault : Option (Option Reply) → Result Access Refusal → Option EventFault
decided_fault completion decision = ended_fault (refusal_of true decision) completion

abbrev pub data_fault : Packet → Option Open → Option EventFault
data_fault p None = Some fault.NotOutstanding
data_fault p (Some o) = if o.is_whole then Some fault.DataTwice else decided_fault o.completion (access_of None (with_packet o.fields p))

abbrev pub reply_fault : Completion → Option Open → Option EventFault
reply_fault c None = Some fault.NotOutstanding
reply_fault c (Some o) = if is_some o.completion then Some fault.ReplyTwice else ended_fault o.refusal (Some c.reply)

abbrev pub drop_fault : Option Open → Option EventFault
drop_fault None = Some fault.NotOutstanding
drop_fault (Some o) = None

-- two reasons are one
abbrev pub is_same : Refusal → Refusal → Bool
is_same refusal.UnknownOpcode refusal.UnknownOpcode = true
is_same refusal.ReservedSize refusal.ReservedSize = true
is_same refusal.SizeOutOfProfile refusal.SizeOutOfProfile = true
is_same refusal.Misaligned refusal.Misaligned = true
is_same refusal.OutOfRegion refusal.OutOfRegion = true
is_same refusal.BadByteEnable refusal.BadByteEnable = true
is_same reason other = false

abbrev pub is_given : Refusal → Option Refusal → Bool
is_given reason None = false
is_given reason (Some other) = is_same reason other

-- a line of 64 bytes that does not hold an address
abbrev pub line_without : ℕ → Extent
line_without addr = record { base = if nat_lt addr 64 then 64 else 0; granules = 8 }

-- why a home refuses a request whose operand is not in its region
abbrev pub refusal_elsewhere : RequestFields → Option Refusal
refusal_elsewhere a = result_err (access_of (Some (line_without a.addr)) a)

-- A home may refuse the request for this reason: a home of all addresses, or one of a region without the operand, or either for
-- byte enables that are still to come.
abbrev pub is_reason : Open → Refusal → Bool
is_reason o reason =
    is_given reason o.refusal || is_given reason (refusal_elsewhere o.fields)
    || (not o.is_whole && is_none o.refusal && is_same reason refusal.BadByteEnable)

abbrev pub reason_fault : Open → Option Refusal → Option EventFault
reason_fault o None = None
reason_fault o (Some reason) = if is_reason o reason then None else Some fault.NotRefusedSo

abbrev pub refused_fault : Option Refusal → Option Open → Option EventFault
refused_fault reason None = Some fault.NotOutstanding
refused_fault reason (Some o) = if is_some o.completion then Some fault.RefusedAfterReply else reason_fault o reason

abbrev pub kind_fault : List Open → EventKind → Option EventFault
kind_fault requests (event_kind.Request r) = request_fault (open_with r.id requests)
kind_fault requests (event_kind.Data p) = data_fault p (open_with p.id requests)
kind_fault requests (event_kind.Reply c) = reply_fault c (open_with c.id requests)
kind_fault requests (event_kind.Dropped id) = drop_fault (open_with id requests)
kind_fault requests (event_kind.Refused id reason) = refused_fault reason (open_with id requests)
kind_fault requests (event_kind.Word w) = None
kind_fault requests (event_kind.Final w) = None
kind_fault requests (event_kind.Unknown addr len) = None
kind_fault requests event_kind.End = None

-- why a home refused a request, where the event tells that it did
abbrev pub refusal_by : List Open → EventKind → Option Refusal
refusal_by requests (event_kind.Refused id reason) = option_or reason (option_and_then (λ o. o.refusal) (open_with id requests))
refusal_by requests _ = None

-- why the event cannot come next, if it cannot
abbrev pub fault_of : OutstandingValue → Event → Option EventFault
fault_of o e = if nat_lt e.time o.time then Some fault.TimeFalls else kind_fault o.requests e.kind

-- the event is its request
abbrev pub IsTakenBy : Event → Open → Type 0
IsTakenBy e o = (o.start ≡ e.time) × ((r : Requested) × (requested e.kind ≡ Some r) × (o.fields ≡ r.fields))

-- an outstanding request was so before, or was taken by this event
abbrev pub StaysOrStarts : List Open → Event → Open → Type 0
StaysOrStarts before e o = IsTakenBy e o ⊎ ((p : Open) × Contains before p × (o.start ≡ p.start) × (o.fields ≡ p.fields))

-- the operation is one of these requests, and ended at this time
pub record IsEndOf (before : List Open) (time : ℕ) (op : Operation) : Type 0 where
  pub request : Open
  pub is : Contains before request
  pub start : op.start ≡ request.start
  pub at : op.access.addr ≡ request.fields.addr
  pub within : op.access.addr + op.access.len ≤ 2 ^ 52
  pub end : op.end ≡ time
  pub lasting : op.start ≤ op.end

-- the operation is that of the request that the event is about
pub record IsEndOfAbout (before : List Open) (kind : EventKind) (op : Operation) : Type 0 where
  pub request : Open
  pub is : request_about before kind ≡ Some request
  pub start : op.start ≡ request.start
  pub src : op.src ≡ request.fields.src
