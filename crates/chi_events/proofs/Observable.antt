-- the operation that a request is can be observed
use Rattle.std.proofs.Common.{◌≡◌, ℕ, ◌-◌, ◌^◌, ◌<◌, ◌≤◌, Bool, true, false, if◌then◌else◌, All, Option, Some, None, Result, Ok, Err, IfOk, IfSome, refl, arith}
use Rattle.std.specs.Prelude.{max, option_and_then, option_map}
use Rattle.std.specs.Option.{unwrap_or}
use Rattle.std.specs.Result.{result_ok}
use Rattle.std.proofs.Math.Nat.{le-max_right}
use Rattle.chi_fields.specs.Access.{Access}
use Rattle.chi_fields.specs.declared.refusal.Refusal.{Refusal}
use Rattle.chi_trace.specs.Explains.{IsOperation}
use Rattle.chi_trace.specs.declared.operation.Operation.{Operation}
use Rattle.chi_trace.specs.RequestFields.{access_of, as_operation}
use Rattle.chi_trace.specs.declared.request_fields.RequestFields.{RequestFields}
use Rattle.chi_trace.proofs.Decided.{IsWithin, accessed}
use Rattle.chi_events.specs.declared.event.Event.{Event}
use Rattle.chi_events.specs.declared.event.EventKind.{EventKind}
use Rattle.chi_events.specs.declared.event.EventKind.TheVariants.{Request, Data, Reply, Dropped, Refused, Word, Final, Unknown, End}
use Rattle.chi_events.specs.Operations.{AccessAt, DataAt, ReplyAt, access_told, data_at, data_told, decided_at, ended_at, is_dropped, is_whole, operation_of, reply_at, reply_told, with_packet}
use Rattle.chi_trace.specs.RequestFields.{IsPacket}
use Rattle.chi_events.specs.Outstanding.{HasPacket}
use Rattle.chi_events.specs.RequestEvents.{RequestEvents}
use Rattle.chi_events.proofs.Lists.{first_taken}

-- an event of a time or later, the data of which are a packet
pub record IsAfter (time : ℕ) (e : Event) : Type 0 where
  pub later : time ≤ e.time
  pub packet : HasPacket e.kind

-- what is true of a request that events tell
pub record IsTold (t : RequestEvents) : Type 0 where
  pub time : t.time < 2 ^ 64
  pub packet : IsPacket t.request.fields.be t.request.fields.lanes
  pub later : All (IsAfter t.time) t.later

decided_within : (time : ℕ) (a : RequestFields) → IsPacket a.be a.lanes → IfSome (decided_at time a) (λ x. IsWithin x.access)
decided_within time a packet =
    by_result (access_of None a) (accessed None a packet tt)
  where
    by_result : (r : Result Access Refusal) → IfOk r IsWithin → IfSome (option_map {U = AccessAt} (λ access. record { time = time; access = access }) (result_ok r)) (λ x. IsWithin x.access)
    by_result (Ok access) within = within
    by_result (Err refusal) within = tt

data_packet : (time : ℕ) (kind : EventKind) → HasPacket kind → IfSome (data_at time kind) (λ d. IsPacket d.packet.be d.packet.lanes)
data_packet time (Request r) has = tt
data_packet time (Data p) has = has
data_packet time (Reply c) has = tt
data_packet time (Dropped id) has = tt
data_packet time (Refused id reason) has = tt
data_packet time (Word w) has = tt
data_packet time (Final w) has = tt
data_packet time (Unknown addr len) has = tt
data_packet time End has = tt

told_packet : (t : RequestEvents) → IsTold t → IfSome (data_told t) (λ d. IsPacket d.packet.be d.packet.lanes)
told_packet t is =
    first_taken (λ e. data_at e.time e.kind) (IsAfter t.time) (λ d. IsPacket d.packet.be d.packet.lanes) (λ e after. data_packet e.time e.kind after.packet) t.later is.later

told_within : (t : RequestEvents) → IsTold t → IfSome (access_told t) (λ x. IsWithin x.access)
told_within t is = by_test (is_whole t.request)
  where
    by_data : (o : Option DataAt) → IfSome o (λ d. IsPacket d.packet.be d.packet.lanes)
        → IfSome (option_and_then (λ d. decided_at d.time (with_packet t.request.fields d.packet)) o) (λ x. IsWithin x.access)
    by_data (Some d) packet = decided_within d.time (with_packet t.request.fields d.packet) packet
    by_data None packet = tt

    by_test : (b : Bool) → IfSome (if b then decided_at t.time t.request.fields
        else option_and_then (λ d. decided_at d.time (with_packet t.request.fields d.packet)) (data_told t)) (λ x. IsWithin x.access)
    by_test true = decided_within t.time t.request.fields is.packet
    by_test false = by_data (data_told t) (told_packet t is)

reply_time : (start time : ℕ) (kind : EventKind) → start ≤ time → IfSome (reply_at time kind) (λ r. start ≤ r.time)
reply_time start time (Request r) later = tt
reply_time start time (Data p) later = tt
reply_time start time (Reply c) later = later
reply_time start time (Dropped id) later = tt
reply_time start time (Refused id reason) later = tt
reply_time start time (Word w) later = tt
reply_time start time (Final w) later = tt
reply_time start time (Unknown addr len) later = tt
reply_time start time End later = tt

told_reply : (t : RequestEvents) → IsTold t → IfSome (reply_told t) (λ r. t.time ≤ r.time)
told_reply t is =
    first_taken (λ e. reply_at e.time e.kind) (IsAfter t.time) (λ r. t.time ≤ r.time) (λ e after. reply_time t.time e.time e.kind after.later) t.later is.later

-- an operation ends no earlier than its request was taken
told_end : (t : RequestEvents) → IsTold t → t.time ≤ unwrap_or (ended_at t) (2 ^ 64 - 1)
told_end t is = by_case (access_told t) (reply_told t) (told_reply t is)
  where
    by_case : (a : Option AccessAt) (r : Option ReplyAt) → IfSome r (λ r. t.time ≤ r.time)
        → t.time ≤ unwrap_or (option_and_then (λ x. option_map (λ y. max x.time y.time) r) a) (2 ^ 64 - 1)
    by_case None r later = omega (arith, is.time)
    by_case (Some a) None later = omega (arith, is.time)
    by_case (Some a) (Some r) later = omega (arith, later, le-max_right a.time r.time)

-- the operation of a request with this access, which ended then or was open
abbrev pub operation_as : RequestEvents → Option ℕ → AccessAt → Operation
operation_as t end a =
    as_operation t.request.fields a.access t.time (unwrap_or end (2 ^ 64 - 1)) (option_and_then (λ n. option_and_then (λ r. r.reply) (reply_told t)) end)

pub operation_observed : (t : RequestEvents) → IsTold t → IfSome (operation_of t) IsOperation
operation_observed t is = by_test (is_dropped t) (access_told t) (told_within t is)
  where
    by_test : (b : Bool) (o : Option AccessAt) → IfSome o (λ x. IsWithin x.access)
        → IfSome (if b then None else option_map (operation_as t (ended_at t)) o) IsOperation
    by_test true o within = tt
    by_test false None within = tt
    by_test false (Some a) within = record { lawful = within.lawful; within = within.below; lasting = told_end t is }

pub operation_start : (t : RequestEvents) → IfSome (operation_of t) (λ op. op.start ≡ t.time)
operation_start t = by_test (is_dropped t) (access_told t)
  where
    by_test : (b : Bool) (o : Option AccessAt)
        → IfSome (if b then None else option_map (operation_as t (ended_at t)) o) (λ op. op.start ≡ t.time)
    by_test true o = tt
    by_test false None = tt
    by_test false (Some a) = refl
