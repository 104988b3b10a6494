-- the event that a line tells, or its first fault
use Rattle.std.specs.Prelude.{ℕ, false, ◌+◌, ◌-◌, ◌/◌, ◌^◌, nat_le, ◌&&◌, ◌||◌, Bool, if◌then◌else◌, List, [], ◌∷◌, codes, Option, None, Some, is_some, option_and_then, option_map, Result, Ok, Err}
use Rattle.std.specs.Option.{ok_or}
use Rattle.std.specs.Str.{bytes_eq}
use Rattle.serde_json.specs.Data.{Data, Members}
use Rattle.serde_json.specs.Find.{as_bool, as_object, as_str, get}
use Rattle.chi_fields.specs.declared.refusal.Refusal.{Refusal}
use Rattle.chi_json.specs.declared.member.MemberFault.{MemberFault}
use Rattle.chi_json.specs.declared.member.MemberFault.TheVariants as member_fault
use Rattle.chi_json.specs.declared.fault.ObjectFault.TheVariants.{NotObject, UnknownMember}
use Rattle.chi_json.specs.Members.{◌>>=◌, member_by, number_of, or_else}
use Rattle.chi_json.specs.Unknown.{unknown_in}
use Rattle.chi_json.specs.Values.{hex_bytes}
use Rattle.chi_reading.specs.declared.member.Member.{Member}
use Rattle.chi_reading.specs.declared.member.Member.TheVariants as name
use Rattle.chi_reading.specs.Mark.{line_value}
use Rattle.chi_reading.specs.Member.{member_name, request_members}
use Rattle.chi_reading.specs.declared.fault.LineFault.{LineFault}
use Rattle.chi_reading.specs.declared.fault.LineFault.TheVariants.{Object, OfFlits, OfTrace}
use Rattle.chi_reading.specs.Faults.{faultless, of_line}
use Rattle.chi_reading.specs.OtherKind.{is_of_flit, is_of_trace, unread_line}
use Rattle.chi_reading.specs.Refused.{refusal_of}
use Rattle.chi_reading.specs.Requests.{fields_of, seen_of, stated_request}
use Rattle.chi_reading.specs.Told.{start_of, word_of as granule_word}
use Rattle.chi_events.specs.declared.event.Completion.{Completion}
use Rattle.chi_events.specs.declared.event.Event.{Event}
use Rattle.chi_events.specs.declared.event.EventKind.{EventKind}
use Rattle.chi_events.specs.declared.event.EventKind.TheVariants as kind
use Rattle.chi_events.specs.declared.event.Packet.{Packet}
use Rattle.chi_events.specs.declared.event.Requested.{Requested}
use Rattle.chi_reading.specs.declared.line_kind.LineKind.{LineKind}
use Rattle.chi_reading.specs.declared.line_kind.LineKind.TheVariants as line

-- ---- kinds

-- the kind of this name
abbrev pub kind_named : List ℕ → Option LineKind
kind_named s =
    if bytes_eq s (codes "request") then Some line.Request else (
    if bytes_eq s (codes "data") then Some line.Data else (
    if bytes_eq s (codes "reply") then Some line.Reply else (
    if bytes_eq s (codes "dropped") then Some line.Dropped else (
    if bytes_eq s (codes "refused") then Some line.Refused else (
    if bytes_eq s (codes "word") then Some line.Word else (
    if bytes_eq s (codes "unknown") then Some line.Unknown else (
    if bytes_eq s (codes "end") then Some line.End else None)))))))

abbrev pub kind_of : Data → Option LineKind
kind_of d = option_and_then kind_named (as_str d)

-- the members that a line of a kind may have
abbrev pub members_of : LineKind → List (List Member)
members_of line.Request = (name.Time ∷ name.Event ∷ name.Id ∷ request_members) ∷ []
members_of line.Data = (name.Time ∷ name.Event ∷ name.Id ∷ name.Be ∷ name.Lanes ∷ []) ∷ []
members_of line.Reply = (name.Time ∷ name.Event ∷ name.Id ∷ name.Reply ∷ []) ∷ []
members_of line.Dropped = (name.Time ∷ name.Event ∷ name.Id ∷ []) ∷ []
members_of line.Refused = (name.Time ∷ name.Event ∷ name.Id ∷ name.Reason ∷ []) ∷ []
members_of line.Word = (name.Time ∷ name.Event ∷ name.Addr ∷ name.Bytes ∷ name.Final ∷ []) ∷ []
members_of line.Unknown = (name.Time ∷ name.Event ∷ name.Addr ∷ name.Length ∷ []) ∷ []
members_of line.End = (name.Time ∷ name.Event ∷ []) ∷ []

-- ---- what is told

-- the request that the line with this number tells: with its data where `be` or `lanes` is there, and then both have to be
unfoldable pub requested_of : ℕ → Data → Result Requested (MemberFault Member)
requested_of number d = do
  id ← number_of member_name name.Id (2 ^ 64 - 1) d
  fields ← if has_data then stated_request number d else fields_of number d
  Ok (record { id = id; fields = fields; has_data = has_data })
  where
    has_data : Bool
    has_data = is_some (get (member_name name.Be) d) || is_some (get (member_name name.Lanes) d)

-- its data
unfoldable pub packet_of : Data → Result Packet (MemberFault Member)
packet_of d = do
  id ← number_of member_name name.Id (2 ^ 64 - 1) d
  be ← number_of member_name name.Be 65535 d
  lanes ← member_by member_name name.Lanes (hex_bytes 16) d
  Ok (record { id = id; be = be; lanes = lanes })

-- its completion
unfoldable pub completion_of : Data → Result Completion (MemberFault Member)
completion_of d = do
  id ← number_of member_name name.Id (2 ^ 64 - 1) d
  reply ← member_by member_name name.Reply seen_of d
  Ok (record { id = id; reply = reply })

-- why a request was refused, by the member `reason`, where it is there
abbrev pub reason_by : Option Data → Result (Option Refusal) (MemberFault Member)
reason_by None = Ok None
reason_by (Some d) = ok_or (option_map Some (refusal_of d)) (member_fault.BadMember name.Reason)

-- a request that was refused
unfoldable pub refused_of : Data → Result EventKind (MemberFault Member)
refused_of d = do
  id ← number_of member_name name.Id (2 ^ 64 - 1) d
  reason ← reason_by (get (member_name name.Reason) d)
  Ok (kind.Refused id reason)

-- whether a word is one at the end, by the member `final`
abbrev pub final_by : Option Data → Result Bool (MemberFault Member)
final_by None = Ok false
final_by (Some d) = ok_or (as_bool d) (member_fault.BadMember name.Final)

-- the word of a granule that the line with a number tells, or the one after its last request
unfoldable pub word_of : ℕ → Data → Result EventKind (MemberFault Member)
word_of number d = do
  addr ← member_by member_name name.Addr start_of d
  word ← member_by member_name name.Bytes granule_word d
  is_final ← final_by (get (member_name name.Final) d)
  Ok ((if is_final then kind.Final else kind.Word) (record { number = number; granule = addr / 8; word = word }))

-- bytes of which nothing is known
unfoldable pub unknown_of : Data → Result EventKind (MemberFault Member)
unknown_of d = do
  addr ← number_of member_name name.Addr (2 ^ 64 - 1) d
  length ← number_of member_name name.Length 4096 d
  if nat_le 1 length && nat_le (addr + length) (2 ^ 52) then Ok (kind.Unknown addr length) else Err (member_fault.BadMember name.Length)

-- what the line with a number, which is of a kind, tells
unfoldable pub told_of : ℕ → LineKind → Data → Result EventKind (MemberFault Member)
told_of number line.Request d = requested_of number d >>= λ r. Ok (kind.Request r)
told_of number line.Data d = packet_of d >>= λ p. Ok (kind.Data p)
told_of number line.Reply d = completion_of d >>= λ c. Ok (kind.Reply c)
told_of number line.Dropped d = number_of member_name name.Id (2 ^ 64 - 1) d >>= λ id. Ok (kind.Dropped id)
told_of number line.Refused d = refused_of d
told_of number line.Word d = word_of number d
told_of number line.Unknown d = unknown_of d
told_of number line.End d = Ok kind.End

-- the kind that an object on the line with a number names, and its event: its time, and what it tells
unfoldable pub stated_event : ℕ → Data → Result (LineKind × Event) (MemberFault Member)
stated_event number d = do
  k ← member_by member_name name.Event kind_of d
  time ← number_of member_name name.Time (2 ^ 64 - 1) d
  told ← told_of number k d
  Ok (k, record { time = time; kind = told })

-- the event of an object on the line with a number, which has no other members
unfoldable pub object_event : ℕ → Data → Members → Result Event LineFault
object_event number d members = do
  stated ← or_else (of_line d) (stated_event number d)
  faultless (λ unknown. Object (UnknownMember unknown)) (unknown_in member_name (members_of stated.0) members) stated.1

-- the event of the line with a number, which is an object and none of a trace or of flits
unfoldable pub event_text : ℕ → List ℕ → Result Event LineFault
event_text number text = do
  d ← ok_or (line_value number text) (unread_line number text)
  members ← ok_or (as_object d) (Object NotObject)
  if is_of_trace d then Err OfTrace else if is_of_flit d then Err OfFlits else object_event number d members
