-- why a flit cannot come next
use Rattle.std.specs.Prelude.{ℕ, ◌^◌, ◌==◌, nat_le, nat_lt, length, Bool, false, not, ◌&&◌, ◌||◌, if◌then◌else◌, List, [], ◌∷◌, Option, None, Some, find, is_some, option_and_then, bit_and, slice_index_or}
use Rattle.std.specs.List.{list_all, list_any}
use Rattle.std.specs.Option.{option_map_or, option_or}
use Rattle.chi_flits.specs.declared.fault.FlitFault.{FlitFault}
use Rattle.chi_flits.specs.declared.fault.FlitFault.TheVariants as fault
use Rattle.chi_flits.specs.declared.flit.Chunk.{Chunk}
use Rattle.chi_flits.specs.declared.flit.DataFlit.{DataFlit}
use Rattle.chi_flits.specs.declared.flit.Flit.{Flit}
use Rattle.chi_flits.specs.declared.flit.FlitKind.{FlitKind}
use Rattle.chi_flits.specs.declared.flit.FlitKind.TheVariants as kind
use Rattle.chi_flits.specs.declared.flit.RequestFlit.{RequestFlit}
use Rattle.chi_flits.specs.declared.flit.ResponseFlit.{ResponseFlit}
use Rattle.chi_flits.specs.declared.transaction.Transaction.{Transaction}
use Rattle.chi_flits.specs.declared.transfer.Transfer.{Transfer}
use Rattle.chi_flits.specs.Answers.{chunk_at, drops, is_error, key}
use Rattle.chi_flits.specs.History.{transaction, transfer}
use Rattle.chi_flits.specs.Opcodes.{gives_dbid, is_cancel, is_comp, is_read_data, is_response, is_retry, is_write_data, takes_txn}
use Rattle.chi_flits.specs.Requests.{answers_data, is_told, lanes_at, needs_data, places_of, quarter_at}
use Rattle.chi_flits.specs.Told.{are_whole, enables_at}

-- the fault where a test holds
abbrev pub fault_if : Bool → FlitFault → Option FlitFault
fault_if test f = if test then Some f else None

-- data were answered for a quarter, for some, or for all of them
abbrev pub is_answered : Transaction → ℕ → Bool
is_answered t c = slice_index_or t.answered c false

abbrev pub has_answers : Transaction → Bool
has_answers t = list_any (λ i. is_answered t (quarter_at t.request i)) (places_of t.request)

abbrev pub has_all_answers : Transaction → Bool
has_all_answers t = list_all (λ i. is_answered t (quarter_at t.request i)) (places_of t.request)

-- the request is completed: without data, which one that answers data is by an error, or by all of its data
abbrev pub is_complete : Transaction → Bool
is_complete t = t.is_completed || (answers_data t.request && has_all_answers t)

-- Nothing more is to come to its TxnID: it was retried, or it is completed and has its DBID, where it needs one.
abbrev pub is_over : Transaction → Bool
is_over t = t.is_retried || (is_complete t && (t.has_dbid || not (needs_data t.request)))

abbrev pub request_fault : RequestFlit → Option Transaction → Option FlitFault
request_fault q None = None
request_fault q (Some t) = fault_if (takes_txn q.opcode && is_told t.request && not (is_over t)) fault.TakesOpen

-- data are still to come by a DBID
abbrev pub is_held : Transfer → Bool
is_held w = is_told w.request && not (are_whole w.request w.chunks)

-- what is wrong with a DBID that is given, and with one that is given to a request
abbrev pub held_fault : Option Transfer → Option FlitFault
held_fault held = fault_if (option_map_or is_held held false) fault.DbidTaken

abbrev pub dbid_fault : Transaction → Option Transfer → Option FlitFault
dbid_fault t held = if t.has_dbid || not (needs_data t.request) then Some fault.SecondDbid else held_fault held

abbrev pub comp_fault : ResponseFlit → Transaction → Option FlitFault
comp_fault r t =
    if t.is_completed || has_answers t then Some fault.CompletedTwice
    else fault_if (answers_data t.request && not (is_error r.resp_err)) fault.NoData

-- of one that is open
abbrev pub open_fault : ResponseFlit → Transaction → Option Transfer → Option FlitFault
open_fault r t held =
    if is_retry r.opcode then fault_if (t.has_dbid || t.is_completed || has_answers t) fault.RetryLate
    else option_or (if gives_dbid r.opcode then dbid_fault t held else None) (if is_comp r.opcode then comp_fault r t else None)

-- of a response to what is known of its TxnID, by what is known of its DBID; to a request that is not told of its DBID alone
abbrev pub response_fault : ResponseFlit → Option Transaction → Option Transfer → Option FlitFault
response_fault r None held = fault_if (is_response r.opcode) fault.NotOpen
response_fault r (Some t) held =
    if not (is_response r.opcode) then None
    else if not (is_told t.request) then (if gives_dbid r.opcode then held_fault held else None)
    else if is_over t then Some fault.NotOpen
    else open_fault r t held

-- a flit has data of a request
abbrev pub has_part : DataFlit → RequestFlit → Bool
has_part d q = list_any (λ i. is_some (chunk_at d.chunks (quarter_at q i))) (places_of q)

-- a lane that was answered is not known
abbrev pub lane_unknown : RequestFlit → ℕ → Chunk → Bool
lane_unknown q i c = not (bit_and c.unknown (lanes_at q i) == 0)

-- what is wrong with the data of one operation, of those that a flit has
abbrev pub lanes_fault : DataFlit → Transaction → ℕ → Chunk → Option FlitFault
lanes_fault d t i c =
    if is_answered t (quarter_at t.request i) then Some fault.OtherData
    else fault_if (not (is_error d.resp_err) && lane_unknown t.request i c) fault.UnknownLane

abbrev pub answered_fault : DataFlit → Transaction → ℕ → Option FlitFault
answered_fault d t i = option_and_then (lanes_fault d t i) (chunk_at d.chunks (quarter_at t.request i))

-- the first operation whose data have a fault
abbrev pub wrong_answer : DataFlit → Transaction → Option ℕ
wrong_answer d t = find (λ i. is_some (answered_fault d t i)) (places_of t.request)

abbrev pub answer_fault : DataFlit → Transaction → Option FlitFault
answer_fault d t =
    if not (answers_data t.request) then Some fault.DataUnasked
    else if t.is_completed then Some fault.CompletedTwice
    else if not (has_part d t.request) then Some fault.OtherData
    else option_and_then (answered_fault d t) (wrong_answer d t)

-- of data from the home
abbrev pub read_fault : DataFlit → Option Transaction → Option FlitFault
read_fault d None = fault_if (is_read_data d.opcode) fault.NotOpen
read_fault d (Some t) =
    if not (is_read_data d.opcode && is_told t.request) then None
    else if is_over t then Some fault.NotOpen
    else answer_fault d t

-- a byte enable that counts is not known: of a write one of its own bytes, of an atomic any
abbrev pub enable_unknown : RequestFlit → ℕ → Chunk → Bool
enable_unknown q i c = not (enables_at q i c.unknown_be == 0)

-- an enabled lane is not known
abbrev pub sent_unknown : RequestFlit → ℕ → Chunk → Bool
sent_unknown q i c = not (bit_and (enables_at q i c.be) c.unknown == 0)

-- a byte of WriteNoSnpFull is not enabled
abbrev pub is_part : RequestFlit → ℕ → Chunk → Bool
is_part q i c = q.opcode == 0x1d && not (enables_at q i c.be == lanes_at q i)

abbrev pub enabled_fault : RequestFlit → ℕ → Chunk → Option FlitFault
enabled_fault q i c =
    if enable_unknown q i c then Some fault.UnknownEnable
    else if sent_unknown q i c then Some fault.UnknownSent
    else fault_if (is_part q i c) fault.NotFull

-- what is wrong with the data of one operation, where they are not dropped
abbrev pub chunk_fault : DataFlit → Transfer → ℕ → Chunk → Option FlitFault
chunk_fault d t i c =
    if is_some (chunk_at t.chunks (quarter_at t.request i)) then Some fault.OtherData
    else if drops d then None
    else enabled_fault t.request i c

abbrev pub sent_fault : DataFlit → Transfer → ℕ → Option FlitFault
sent_fault d t i = option_and_then (chunk_fault d t i) (chunk_at d.chunks (quarter_at t.request i))

-- the first operation whose data have a fault
abbrev pub wrong_sent : DataFlit → Transfer → Option ℕ
wrong_sent d t = find (λ i. is_some (sent_fault d t i)) (places_of t.request)

abbrev pub parts_fault : DataFlit → Transfer → Option FlitFault
parts_fault d t = option_and_then (sent_fault d t) (wrong_sent d t)

-- a request's data are cancelled, all of them, or none
abbrev pub cancel_fault : DataFlit → Transfer → Option FlitFault
cancel_fault d t =
    if is_cancel d.opcode && not (t.request.opcode == 0x1c) then Some fault.CancelsOther
    else fault_if (if is_cancel d.opcode then t.has_data else t.has_cancel) fault.CancelsSome

abbrev pub data_fault : DataFlit → Transfer → Option FlitFault
data_fault d t =
    if not (has_part d t.request) then Some fault.OtherData
    else option_or (cancel_fault d t) (parts_fault d t)

-- of data to the home
abbrev pub write_fault : DataFlit → Option Transfer → Option FlitFault
write_fault d None = fault_if (is_write_data d.opcode) fault.NotGiven
write_fault d (Some t) =
    if not (is_write_data d.opcode && is_told t.request) then None
    else if are_whole t.request t.chunks then Some fault.NotGiven
    else data_fault d t

-- why a flit cannot come, if it cannot, by what is known of TxnIDs and of DBIDs
abbrev pub fault_with : (ℕ → Option Transaction) → (ℕ → Option Transfer) → FlitKind → Option FlitFault
fault_with transactions transfers (kind.Request q) = request_fault q (transactions (key q.src q.txn))
fault_with transactions transfers (kind.Response r) = response_fault r (transactions (key r.tgt r.txn)) (transfers (key r.tgt r.dbid))
fault_with transactions transfers (kind.ReadData d) = read_fault d (transactions (key d.node d.txn))
fault_with transactions transfers (kind.WriteData d) = write_fault d (transfers (key d.node d.txn))

-- the time of the newest
abbrev pub last_time : List Flit → ℕ
last_time [] = 0
last_time (f ∷ older) = f.time

-- why a flit cannot come after others, of which the newest stands first, if it cannot
abbrev pub fault_by : List Flit → Flit → Option FlitFault
fault_by older f =
    if nat_lt f.time (last_time older) then Some fault.TimeFalls
    else if nat_le (2 ^ 61) (length older) then Some fault.TooMany
    else fault_with (λ txn. transaction txn older) (λ dbid. transfer dbid older) f.kind
