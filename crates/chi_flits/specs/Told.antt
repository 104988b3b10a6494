-- the events that flits tell
use Rattle.std.specs.Prelude.{ℕ, ◌+◌, ◌*◌, ◌/◌, ◌%◌, ◌^◌, ◌==◌, length, Bool, false, not, ◌&&◌, if◌then◌else◌, List, [], ◌∷◌, ◌++◌, map, filter_map, Option, None, Some, is_some, option_map, bit_and, slice_index}
use Rattle.std.specs.Int.{bit_at}
use Rattle.std.specs.List.{list_all, range_with_len}
use Rattle.std.specs.Option.{option_or}
use Rattle.chi_lanes.specs.declared.reply.Reply.{Reply}
use Rattle.chi_lanes.specs.declared.reply.Reply.TheVariants as reply
use Rattle.chi_events.specs.declared.event.Event.{Event}
use Rattle.chi_events.specs.declared.event.EventKind.{EventKind}
use Rattle.chi_events.specs.declared.event.EventKind.TheVariants as event
use Rattle.chi_flits.specs.declared.flit.Chunk.{Chunk}
use Rattle.chi_flits.specs.declared.flit.DataFlit.{DataFlit}
use Rattle.chi_flits.specs.declared.flit.Flit.{Flit}
use Rattle.chi_flits.specs.declared.flit.FlitKind.{FlitKind}
use Rattle.chi_flits.specs.declared.flit.FlitKind.TheVariants as kind
use Rattle.chi_flits.specs.declared.flit.RequestFlit.{RequestFlit}
use Rattle.chi_flits.specs.declared.flit.ResponseFlit.{ResponseFlit}
use Rattle.chi_flits.specs.declared.transaction.Transaction.{Transaction}
use Rattle.chi_flits.specs.declared.transfer.Transfer.{Transfer}
use Rattle.chi_flits.specs.Answers.{chunk_at, is_error, key, quarters}
use Rattle.chi_flits.specs.History.{transaction, transfer}
use Rattle.chi_flits.specs.Opcodes.{is_cancel, is_comp, is_read_data, is_response, is_retry, is_write, is_write_data}
use Rattle.chi_flits.specs.Requests.{address, fields_at, is_told, lanes_at, may_write, places_of, quarter_at}

-- The number of one of a request's operations. Each of 2^61 flits has eight numbers of its own.
abbrev pub number_of : ℕ → ℕ → ℕ
number_of place i = (8 * place + i) % 2 ^ 64

-- one event for each operation of the request that took its TxnID at this place
abbrev pub for_each : RequestFlit → ℕ → (ℕ → EventKind) → List EventKind
for_each q place tells = map (λ i. tells (number_of place i)) (places_of q)

abbrev pub dropped : RequestFlit → ℕ → List EventKind
dropped q place = for_each q place event.Dropped

-- something that is not told may have written to the 64 bytes that hold its address
abbrev pub unknown_line : RequestFlit → EventKind
unknown_line q = event.Unknown (address q / 64 * 64) 64

abbrev pub requested_at : RequestFlit → ℕ → ℕ → EventKind
requested_at q place i = event.Request (record { id = number_of place i; fields = fields_at q i; has_data = false })

abbrev pub requested : RequestFlit → ℕ → List EventKind
requested q place = map (requested_at q place) (places_of q)

abbrev pub told_of_request : ℕ → RequestFlit → List EventKind
told_of_request place q = if is_told q then requested q place else if may_write q then unknown_line q ∷ [] else []

-- a completion without data: that nothing is known of the reply, where it is in error
abbrev pub reply_without : ℕ → Option Reply
reply_without resp_err = if is_error resp_err then None else Some reply.Comp

abbrev pub replied : RequestFlit → ℕ → Option Reply → List EventKind
replied q place r = for_each q place (λ id. event.Reply (record { id = id; reply = r }))

abbrev pub completed : ResponseFlit → Transaction → List EventKind
completed r t = if t.is_dropped then [] else replied t.request t.place (reply_without r.resp_err)

abbrev pub told_of_response : ResponseFlit → Option Transaction → List EventKind
told_of_response r None = []
told_of_response r (Some t) =
    if is_told t.request && is_response r.opcode then (if is_retry r.opcode then dropped t.request t.place else if is_comp r.opcode then completed r t else []) else []

-- bytes of the lanes whose bit is 1, and 0 in all others
abbrev pub kept : ℕ → List ℕ → ℕ → ℕ
kept bits lanes lane = if bit_at bits lane == 1 then slice_index lanes lane else 0

abbrev pub only : ℕ → List ℕ → List ℕ
only bits lanes = map (kept bits lanes) (range_with_len 0 16)

-- the completion of one operation by data: its lanes, or that nothing is known of them
abbrev pub data_reply : RequestFlit → ℕ → ℕ → Chunk → Option Reply
data_reply q resp_err i c = if is_error resp_err then None else Some (reply.CompData (only (lanes_at q i) c.lanes))

abbrev pub answered_at : DataFlit → RequestFlit → ℕ → ℕ → Option EventKind
answered_at d q place i =
    option_map (λ c. event.Reply (record { id = number_of place i; reply = data_reply q d.resp_err i c })) (chunk_at d.chunks (quarter_at q i))

abbrev pub answered : DataFlit → RequestFlit → ℕ → List EventKind
answered d q place = filter_map (answered_at d q place) (places_of q)

abbrev pub told_of_read : DataFlit → Option Transaction → List EventKind
told_of_read d None = []
told_of_read d (Some t) = if is_told t.request && is_read_data d.opcode && not t.is_dropped then answered d t.request t.place else []

-- the byte enables that an operation has of those of its quarter: of a write the ones of its own bytes
abbrev pub enables_at : RequestFlit → ℕ → ℕ → ℕ
enables_at q i be = if is_write q.opcode then bit_and be (lanes_at q i) else be

-- its data
abbrev pub sent_at : RequestFlit → ℕ → List (Option Chunk) → ℕ → Option EventKind
sent_at q place chunks i =
    option_map (λ c. event.Data (record { id = number_of place i; be = enables_at q i c.be; lanes = only (enables_at q i c.be) c.lanes })) (chunk_at chunks (quarter_at q i))

abbrev pub all_sent : RequestFlit → ℕ → List (Option Chunk) → List EventKind
all_sent q place chunks = filter_map (sent_at q place chunks) (places_of q)

-- the data with those of one flit more
abbrev pub with_chunks : DataFlit → List (Option Chunk) → List (Option Chunk)
with_chunks d chunks = quarters (λ c. option_or (chunk_at d.chunks c) (chunk_at chunks c))

-- each operation has its data
abbrev pub are_whole : RequestFlit → List (Option Chunk) → Bool
are_whole q chunks = list_all (λ i. is_some (chunk_at chunks (quarter_at q i))) (places_of q)

-- Data that write nothing drop the request; those in error may have written something. The others are told once all have come.
abbrev pub told_of_data : DataFlit → Transfer → List EventKind
told_of_data d t =
    if is_cancel d.opcode then dropped t.request t.place
    else if is_error d.resp_err then unknown_line t.request ∷ dropped t.request t.place
    else if are_whole t.request (with_chunks d t.chunks) then all_sent t.request t.place (with_chunks d t.chunks)
    else []

abbrev pub told_of_write : DataFlit → Option Transfer → List EventKind
told_of_write d None = []
told_of_write d (Some t) = if is_told t.request && is_write_data d.opcode && not t.is_dropped then told_of_data d t else []

-- what a flit tells, where so many came before it, by what is known of TxnIDs and of DBIDs
abbrev pub told_with : ℕ → (ℕ → Option Transaction) → (ℕ → Option Transfer) → FlitKind → List EventKind
told_with count transactions transfers (kind.Request q) = told_of_request count q
told_with count transactions transfers (kind.Response r) = told_of_response r (transactions (key r.tgt r.txn))
told_with count transactions transfers (kind.ReadData d) = told_of_read d (transactions (key d.node d.txn))
told_with count transactions transfers (kind.WriteData d) = told_of_write d (transfers (key d.node d.txn))

-- what it tells after others, of which the newest stands first
abbrev pub told_by : List Flit → FlitKind → List EventKind
told_by older k = told_with (length older) (λ txn. transaction txn older) (λ dbid. transfer dbid older) k

-- the events that flits tell, each at the time of its flit
unfoldable pub events_told : List Flit → List Event
events_told [] = []
events_told (f ∷ older) = events_told older ++ map (λ k. record { time = f.time; kind = k }) (told_by older f.kind)
