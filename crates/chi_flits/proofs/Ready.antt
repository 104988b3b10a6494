-- what an event asks of the outstanding requests, and what it does to them
use Rattle.std.specs.Prelude.{◌^◌, ◌<◌, ◌⊎◌, if◌then◌else◌, is_some}
use Rattle.std.proofs.Common.{◌≡◌, ℕ, true, false, List, [], ◌∷◌, ◌++◌, Option, Some, None, Result, Ok, Err, inl, inr, refl, sym, ap, subst}
use Rattle.chi_fields.specs.Access.{Access}
use Rattle.chi_fields.specs.declared.refusal.Refusal.{Refusal}
use Rattle.chi_fields.specs.declared.refusal.Refusal.TheVariants as refusal
use Rattle.chi_lanes.specs.declared.reply.Reply.{Reply}
use Rattle.chi_trace.specs.RequestFields.{IsPacket, access_of}
use Rattle.chi_trace.specs.declared.operation.Operation.{Operation}
use Rattle.chi_events.specs.declared.event.Completion.{Completion}
use Rattle.chi_events.specs.declared.event.Event.{Event}
use Rattle.chi_events.specs.declared.event.EventKind.{EventKind}
use Rattle.chi_events.specs.declared.event.EventKind.TheVariants as event
use Rattle.chi_events.specs.declared.event.Packet.{Packet}
use Rattle.chi_events.specs.declared.fault.EventFault.{EventFault}
use Rattle.chi_events.specs.declared.fault.EventFault.TheVariants as fault
use Rattle.chi_events.specs.declared.outstanding.Open.{Open}
use Rattle.chi_events.specs.EventEffects.{Takes, ended_by, opened, still_open, with_data, with_reply}
use Rattle.chi_events.specs.Operations.{refusal_of, with_packet}
use Rattle.chi_events.specs.Outstanding.{HasPacket, HasWord, data_fault, drop_fault, ended_fault, kind_fault, open_with, reply_fault, request_about, request_fault}
use Rattle.chi_flits.specs.Opcodes.{is_atomic}
use Rattle.chi_flits.proofs.Lookups.{changed, changes_so}

-- a home refuses no request of this opcode, but an atomic by its byte enables
abbrev pub IsFair : ℕ → Option Refusal → Type 0
IsFair opcode None = Unit {0}
IsFair opcode (Some reason) = (reason ≡ refusal.BadByteEnable) × (is_atomic opcode ≡ true)

abbrev pub IsDecided : ℕ → Result Access Refusal → Type 0
IsDecided opcode (Ok access) = Unit {0}
IsDecided opcode (Err reason) = (reason ≡ refusal.BadByteEnable) × (is_atomic opcode ≡ true)

-- the number of the request that an event is about, where it is about one
abbrev pub number_in : EventKind → ℕ
number_in (event.Request r) = r.id
number_in (event.Data p) = p.id
number_in (event.Reply c) = c.id
number_in (event.Dropped id) = id
number_in _ = 0

abbrev pub at : ℕ → EventKind → Event
at time k = record { time = time; kind = k }

-- the request waits for its data, and for its completion
pub record WaitsForData (p : Packet) (found : Option Open) : Type 0 where
  pub request : Open
  pub is : found ≡ Some request
  pub whole : request.is_whole ≡ false
  pub decided : IsDecided request.fields.opcode (access_of None (with_packet request.fields p))
  pub packet : IsPacket p.be p.lanes

pub record WaitsForReply (found : Option Open) : Type 0 where
  pub request : Open
  pub is : found ≡ Some request
  pub completion : request.completion ≡ None
  pub fair : IsFair request.fields.opcode request.refusal

-- an event can come where its number finds this
abbrev pub Ready : EventKind → Option Open → Type 0
Ready (event.Request r) found = (found ≡ None) × IsPacket r.fields.be r.fields.lanes
Ready (event.Data p) found = WaitsForData p found
Ready (event.Reply c) found = WaitsForReply found
Ready (event.Dropped id) found = (o : Open) × (found ≡ Some o)
Ready (event.Refused id reason) found = ⊥
Ready (event.Word w) found = w.word < 2 ^ 64
Ready (event.Final w) found = w.word < 2 ^ 64
Ready (event.Unknown addr len) found = Unit {0}
Ready event.End found = Unit {0}

-- the outstanding requests after an event, and after more of one time
abbrev pub effect : ℕ → EventKind → List Open → List Open
effect time (event.Request r) l = l ++ opened time r ∷ []
effect time (event.Data p) l = changed p.id (λ o. still_open (with_data p o)) l
effect time (event.Reply c) l = changed c.id (λ o. still_open (with_reply c o)) l
effect time (event.Dropped id) l = changed id (λ o. []) l
effect time _ l = l

abbrev pub effects : ℕ → List EventKind → List Open → List Open
effects time [] l = l
effects time (k ∷ ks) l = effects time ks (effect time k l)

-- each of them can come
abbrev pub AreReady : ℕ → List EventKind → List Open → Type 0
AreReady time [] l = Unit {0}
AreReady time (k ∷ ks) l = Ready k (open_with (number_in k) l) × AreReady time ks (effect time k l)

-- an event about a request of this opcode has no fault, or that of an atomic's byte enables
abbrev Passes : ℕ → Option EventFault → Type 0
Passes opcode f = (f ≡ None) ⊎ ((f ≡ Some (fault.Refused refusal.BadByteEnable)) × (is_atomic opcode ≡ true))

passes_reply : (opcode : ℕ) (r : Option Refusal) (c : Option (Option Reply)) → IsFair opcode r → Passes opcode (ended_fault r c)
passes_reply opcode None None fair = inl refl
passes_reply opcode None (Some c) fair = inl refl
passes_reply opcode (Some reason) None fair = inl refl
passes_reply opcode (Some reason) (Some c) fair = inr (ap (λ r. Some (fault.Refused r)) fair.0, fair.1)

pub fair_whole : (opcode : ℕ) (d : Result Access Refusal) → IsDecided opcode d → IsFair opcode (refusal_of true d)
fair_whole opcode (Ok access) decided = tt
fair_whole opcode (Err refusal.UnknownOpcode) decided = decided
fair_whole opcode (Err refusal.ReservedSize) decided = decided
fair_whole opcode (Err refusal.SizeOutOfProfile) decided = decided
fair_whole opcode (Err refusal.Misaligned) decided = decided
fair_whole opcode (Err refusal.OutOfRegion) decided = decided
fair_whole opcode (Err refusal.BadByteEnable) decided = decided

data_passes : (p : Packet) (q : Open) → q.is_whole ≡ false → IsDecided q.fields.opcode (access_of None (with_packet q.fields p)) → Passes q.fields.opcode (data_fault p (Some q))
data_passes p q whole decided =
    let d = access_of None (with_packet q.fields p) in
    subst (λ b. Passes q.fields.opcode (if b then Some fault.DataTwice else ended_fault (refusal_of true d) q.completion)) (sym whole)
    (passes_reply q.fields.opcode (refusal_of true d) q.completion (fair_whole q.fields.opcode d decided))

reply_passes : (c : Completion) (q : Open) → q.completion ≡ None → IsFair q.fields.opcode q.refusal → Passes q.fields.opcode (reply_fault c (Some q))
reply_passes c q completion fair =
    subst (λ (o : Option (Option Reply)). Passes q.fields.opcode (if is_some o then Some fault.ReplyTwice else ended_fault q.refusal (Some c.reply))) (sym completion)
    (passes_reply q.fields.opcode q.refusal (Some c.reply) fair)

-- what an event that can come has
pub ready_packet : (k : EventKind) (found : Option Open) → Ready k found → HasPacket k × HasWord k
ready_packet (event.Request r) found ready = (ready.1, tt)
ready_packet (event.Data p) found ready = (ready.packet, tt)
ready_packet (event.Reply c) found ready = (tt, tt)
ready_packet (event.Dropped id) found ready = (tt, tt)
ready_packet (event.Refused id reason) found ready = absurd ready
ready_packet (event.Word w) found ready = (tt, ready)
ready_packet (event.Final w) found ready = (tt, ready)
ready_packet (event.Unknown addr len) found ready = (tt, tt)
ready_packet event.End found ready = (tt, tt)

-- what it does
pub ready_takes : (time : ℕ) (k : EventKind) (l : List Open) → Ready k (open_with (number_in k) l) → (op : Option Operation) × Takes k time l op (effect time k l)
ready_takes time (event.Request r) l ready = (None, (refl, refl))
ready_takes time (event.Data p) l ready =
    (ended_by time (with_data p ready.request), changes_so p.id (λ o. still_open (with_data p o)) (λ o. ended_by time (with_data p o)) l ready.request ready.is)
ready_takes time (event.Reply c) l ready =
    (ended_by time (with_reply c ready.request), changes_so c.id (λ o. still_open (with_reply c o)) (λ o. ended_by time (with_reply c o)) l ready.request ready.is)
ready_takes time (event.Dropped id) l ready = (None, changes_so id (λ o. []) (λ o. None) l ready.0 ready.1)
ready_takes time (event.Refused id reason) l ready = absurd ready
ready_takes time (event.Word w) l ready = (None, (refl, refl))
ready_takes time (event.Final w) l ready = (None, (refl, refl))
ready_takes time (event.Unknown addr len) l ready = (None, (refl, refl))
ready_takes time event.End l ready = (None, (refl, refl))

-- the atomic for whose byte enables it is refused
pub record IsBarred (l : List Open) (k : EventKind) : Type 0 where
  pub request : Open
  pub about : request_about l k ≡ Some request
  pub atomic : is_atomic request.fields.opcode ≡ true
  pub fault : kind_fault l k ≡ Some (fault.Refused refusal.BadByteEnable)

barred_or : (l : List Open) (k : EventKind) (q : Open) → request_about l k ≡ Some q → Passes q.fields.opcode (kind_fault l k) → (kind_fault l k ≡ None) ⊎ IsBarred l k
barred_or l k q about (inl none) = inl none
barred_or l k q about (inr is) = inr (record { request = q; about = about; atomic = is.1; fault = is.0 })

-- it has no fault, or is refused for the byte enables of an atomic
pub ready_passes : (k : EventKind) (l : List Open) → Ready k (open_with (number_in k) l) → (kind_fault l k ≡ None) ⊎ IsBarred l k
ready_passes (event.Request r) l ready = inl (ap (λ (o : Option Open). request_fault o) ready.0)
ready_passes (event.Data p) l ready =
    let q = ready.request in
    barred_or l (event.Data p) q ready.is (subst (Passes q.fields.opcode) (sym (ap (data_fault p) ready.is)) (data_passes p q ready.whole ready.decided))
ready_passes (event.Reply c) l ready =
    let q = ready.request in
    barred_or l (event.Reply c) q ready.is (subst (Passes q.fields.opcode) (sym (ap (reply_fault c) ready.is)) (reply_passes c q ready.completion ready.fair))
ready_passes (event.Dropped id) l ready = inl (ap (λ (o : Option Open). drop_fault o) ready.1)
ready_passes (event.Refused id reason) l ready = absurd ready
ready_passes (event.Word w) l ready = inl refl
ready_passes (event.Final w) l ready = inl refl
ready_passes (event.Unknown addr len) l ready = inl refl
ready_passes event.End l ready = inl refl
