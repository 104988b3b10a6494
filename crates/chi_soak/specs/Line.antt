-- the line of JSON that tells an event
use Rattle.std.specs.Prelude.{ℕ, ◌*◌, ◌^◌, ◌%◌, List, [], ◌++◌, Bool, if◌then◌else◌, codes, decimal, Option, None, Some}
use Rattle.hex.specs.Hex.{encode_lower}
use Rattle.chi_fields.specs.Refusal.{name_of}
use Rattle.chi_fields.specs.declared.refusal.Refusal.{Refusal}
use Rattle.chi_lanes.specs.declared.reply.Reply.{Reply}
use Rattle.chi_lanes.specs.declared.reply.Reply.TheVariants.{Comp, CompData}
use Rattle.chi_text.specs.Part.{word_text}
use Rattle.chi_trace.specs.declared.request_fields.RequestFields.{RequestFields}
use Rattle.chi_events.specs.declared.event.Completion.{Completion}
use Rattle.chi_events.specs.declared.event.Event.{Event}
use Rattle.chi_events.specs.declared.event.EventKind.{EventKind}
use Rattle.chi_events.specs.declared.event.WordTold.{WordTold}
use Rattle.chi_events.specs.declared.event.EventKind.TheVariants as kind
use Rattle.chi_events.specs.declared.event.Packet.{Packet}
use Rattle.chi_events.specs.declared.event.Requested.{Requested}

-- the number of a byte order
abbrev pub byte_order : Bool → ℕ
byte_order endian = if endian then 1 else 0

-- a request's fields, each after a comma
unfoldable pub fields_text : RequestFields → List ℕ
fields_text a =
    codes ",\"src\":" ++ decimal a.src ++ codes ",\"txn\":" ++ decimal a.txn ++ codes ",\"op\":" ++ decimal a.opcode
    ++ codes ",\"size\":" ++ decimal a.size ++ codes ",\"addr\":" ++ decimal a.addr ++ codes ",\"endian\":" ++ decimal (byte_order a.endian)

-- byte enables and a data packet, each after a comma
unfoldable pub packet_text : ℕ → List ℕ → List ℕ
packet_text be lanes = codes ",\"be\":" ++ decimal be ++ codes ",\"lanes\":\"" ++ encode_lower lanes ++ codes "\""

-- a data packet, as a value of JSON
unfoldable pub quoted_text : List ℕ → List ℕ
quoted_text lanes = codes "\"" ++ encode_lower lanes ++ codes "\""

-- the data of a request, where they have come with it
abbrev pub data_text : Requested → List ℕ
data_text r = if r.has_data then packet_text r.fields.be r.fields.lanes else []

-- what completed a request, as a value of JSON
abbrev pub completion_text : Option Reply → List ℕ
completion_text None = codes "null"
completion_text (Some Comp) = codes "\"comp\""
completion_text (Some (CompData lanes)) = quoted_text lanes

-- the word of a granule: the granule by its address, the bytes in address order, and what comes after them
unfoldable pub granule_text : WordTold → List ℕ → List ℕ
granule_text w end = codes "word\",\"addr\":" ++ decimal (w.granule * 8 % 2 ^ 64) ++ codes ",\"bytes\":\"" ++ word_text w.word ++ end

-- a request, and its data
unfoldable pub request_text : Requested → List ℕ
request_text r = codes "request\",\"id\":" ++ decimal r.id ++ fields_text r.fields ++ data_text r

-- the data of a request that come after it
unfoldable pub late_text : Packet → List ℕ
late_text p = codes "data\",\"id\":" ++ decimal p.id ++ packet_text p.be p.lanes

-- the end of a request, and what completed it
unfoldable pub reply_text : Completion → List ℕ
reply_text c = codes "reply\",\"id\":" ++ decimal c.id ++ codes ",\"reply\":" ++ completion_text c.reply

-- the end of a request that took no effect
unfoldable pub dropped_text : ℕ → List ℕ
dropped_text id = codes "dropped\",\"id\":" ++ decimal id

-- why a request was refused, after a comma, where that is told
abbrev pub reason_text : Option Refusal → List ℕ
reason_text None = []
reason_text (Some reason) = codes ",\"reason\":\"" ++ name_of reason ++ codes "\""

-- the end of a request that was refused
unfoldable pub refused_text : ℕ → Option Refusal → List ℕ
refused_text id reason = codes "refused\",\"id\":" ++ decimal id ++ reason_text reason

-- bytes that something else may have written
unfoldable pub unknown_text : ℕ → ℕ → List ℕ
unknown_text addr length = codes "unknown\",\"addr\":" ++ decimal addr ++ codes ",\"length\":" ++ decimal length

-- the name of what is told, and its members
abbrev pub kind_text : EventKind → List ℕ
kind_text (kind.Request r) = request_text r
kind_text (kind.Data p) = late_text p
kind_text (kind.Reply c) = reply_text c
kind_text (kind.Dropped id) = dropped_text id
kind_text (kind.Refused id reason) = refused_text id reason
kind_text (kind.Word w) = granule_text w (codes "\"")
kind_text (kind.Final w) = granule_text w (codes "\",\"final\":true")
kind_text (kind.Unknown addr length) = unknown_text addr length
kind_text kind.End = codes "end\""

-- the line
unfoldable pub event_line : Event → List ℕ
event_line e = codes "{\"time\":" ++ decimal e.time ++ codes ",\"event\":\"" ++ kind_text e.kind ++ codes "}\n"
