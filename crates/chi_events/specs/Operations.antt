-- the operations that events tell
use Rattle.std.specs.Prelude.{ℕ, ◌-◌, ◌^◌, ◌==◌, max, Bool, true, false, not, ◌||◌, if◌then◌else◌, List, [], ◌∷◌, Option, Some, None, is_some, option_map, option_and_then, filter_map, Result, Ok, Err}
use Rattle.std.specs.List.{list_any}
use Rattle.std.specs.Option.{option_or, unwrap_or}
use Rattle.std.specs.Result.{result_ok}
use Rattle.chi_fields.specs.Access.{Access}
use Rattle.chi_fields.specs.declared.refusal.Refusal.{Refusal}
use Rattle.chi_fields.specs.declared.refusal.Refusal.TheVariants as refusal
use Rattle.chi_lanes.specs.declared.reply.Reply.{Reply}
use Rattle.chi_trace.specs.RequestFields.{access_of, as_operation}
use Rattle.chi_trace.specs.declared.request_fields.RequestFields.{RequestFields}
use Rattle.chi_trace.specs.declared.operation.Operation.{Operation}
use Rattle.chi_events.specs.declared.event.Event.{Event}
use Rattle.chi_events.specs.declared.event.EventKind.{EventKind}
use Rattle.chi_events.specs.declared.event.EventKind.TheVariants as event_kind
use Rattle.chi_events.specs.declared.event.Packet.{Packet}
use Rattle.chi_events.specs.declared.event.Requested.{Requested}
use Rattle.chi_events.specs.RequestEvents.{RequestEvents, each_request}

-- the first of a list, where there is one
abbrev pub first : {X : Type 0} → List X → Option X
first [] = None
first (x ∷ xs) = Some x

-- data, and when they had come
pub record DataAt : Type 0 where
  pub time : ℕ
  pub packet : Packet

abbrev pub data_at : ℕ → EventKind → Option DataAt
data_at time (event_kind.Data p) = Some (record { time = time; packet = p })
data_at time _ = None

-- a completion, and when it had left
pub record ReplyAt : Type 0 where
  pub time : ℕ
  pub reply : Option Reply

abbrev pub reply_at : ℕ → EventKind → Option ReplyAt
reply_at time (event_kind.Reply c) = Some (record { time = time; reply = c.reply })
reply_at time _ = None

-- the request took no effect
abbrev pub is_drop : EventKind → Bool
is_drop (event_kind.Dropped id) = true
is_drop (event_kind.Refused id reason) = true
is_drop _ = false

-- what is told of a request: its first data, its first completion, and whether it was dropped or refused
abbrev pub data_told : RequestEvents → Option DataAt
data_told t = first (filter_map (λ e. data_at e.time e.kind) t.later)

abbrev pub reply_told : RequestEvents → Option ReplyAt
reply_told t = first (filter_map (λ e. reply_at e.time e.kind) t.later)

abbrev pub is_dropped : RequestEvents → Bool
is_dropped t = list_any (λ e. is_drop e.kind) t.later

-- the request came with all the data that it needs: ReadNoSnp needs none
abbrev pub is_whole : Requested → Bool
is_whole r = r.has_data || r.fields.opcode == 0x04

abbrev pub with_packet : RequestFields → Packet → RequestFields
with_packet a p = record a { be = p.be; lanes = p.lanes }

-- an access, and when all its data had come
pub record AccessAt : Type 0 where
  pub time : ℕ
  pub access : Access

-- the access that a home of all addresses decides of a request, where it refuses none
abbrev pub decided_at : ℕ → RequestFields → Option AccessAt
decided_at time a = option_map (λ access. record { time = time; access = access }) (result_ok (access_of None a))

-- the access of a request, once its data have come
abbrev pub access_told : RequestEvents → Option AccessAt
access_told t =
    if is_whole t.request then decided_at t.time t.request.fields
    else option_and_then (λ d. decided_at d.time (with_packet t.request.fields d.packet)) (data_told t)

-- why a home of all addresses refuses a request, as far as that is decided: not by its byte enables, before its data have come
abbrev pub refusal_of : Bool → Result Access Refusal → Option Refusal
refusal_of whole (Ok access) = None
refusal_of false (Err refusal.BadByteEnable) = None
refusal_of whole (Err reason) = Some reason

abbrev pub refusal_with : RequestFields → Option DataAt → Option Refusal
refusal_with a None = refusal_of false (access_of None a)
refusal_with a (Some d) = refusal_of true (access_of None (with_packet a d.packet))

-- the same of what is told of a request
abbrev pub refusal_told : RequestEvents → Option Refusal
refusal_told t = if is_whole t.request then refusal_of true (access_of None t.request.fields) else refusal_with t.request.fields (data_told t)

-- its data are still to be told
abbrev pub waits_for_data : RequestEvents → Bool
waits_for_data t = not (is_whole t.request || is_some (data_told t))

-- when the operation had ended: its data had come, and its completion had left
abbrev pub ended_at : RequestEvents → Option ℕ
ended_at t = option_and_then (λ a. option_map (λ r. max a.time r.time) (reply_told t)) (access_told t)

-- its reply, where it had ended and the completion told one
abbrev pub reply_of : RequestEvents → Option Reply
reply_of t = option_and_then (λ end. option_and_then (λ r. r.reply) (reply_told t)) (ended_at t)

-- The operation that a request is: none where it was dropped or refused, where its data have not come, or where a home of all
-- addresses refuses it. One that has not ended was open when the events ended.
abbrev pub operation_of : RequestEvents → Option Operation
operation_of t =
    if is_dropped t then None
    else option_map (λ a. as_operation t.request.fields a.access t.time (unwrap_or (ended_at t) (2 ^ 64 - 1)) (reply_of t)) (access_told t)

-- the operations that the events tell, in the order in which their requests were taken
abbrev pub operations : List Event → List Operation
operations events = filter_map operation_of (each_request events)

-- the request is outstanding: neither dropped nor refused nor ended
abbrev pub is_outstanding : RequestEvents → Bool
is_outstanding t = not (is_dropped t || is_some (ended_at t))

-- that the request was refused, and the reason, where it is told
abbrev pub refused_at : EventKind → Option (Option Refusal)
refused_at (event_kind.Refused id reason) = Some reason
refused_at _ = None

abbrev pub refused_told : RequestEvents → Option (Option Refusal)
refused_told t = first (filter_map (λ e. refused_at e.kind) t.later)

-- why a request was refused: for the reason that is told, or else for the one that a home of all addresses has, if it has one
abbrev pub reason_of : RequestEvents → Option Refusal
reason_of t = option_and_then (λ given. option_or given (refusal_told t)) (refused_told t)

-- why requests were refused, in the order in which they were taken
abbrev pub refusals_told : List Event → List Refusal
refusals_told events = filter_map reason_of (each_request events)
