-- the requests of a trace's text: the operation that was observed of each, or why a home refused it
use Rattle.std.specs.Prelude.{ℕ, ◌+◌, ◌-◌, ◌^◌, ◌==◌, nat_lt, not, if◌then◌else◌, List, [], ◌∷◌, ◌++◌, replicate, codes, Option, None, Some, is_some, is_none, option_and_then, Result, Ok, Err}
use Rattle.std.specs.Option.{ok_or, option_map}
use Rattle.std.specs.Str.{bytes_eq}
use Rattle.serde_json.specs.Data.{Data, Items, no_items, item}
use Rattle.serde_json.specs.Events.{items_len}
use Rattle.serde_json.specs.Find.{as_null, as_object, as_str, get}
use Rattle.chi_fields.specs.Extent.{Extent}
use Rattle.chi_fields.specs.declared.refusal.Refusal.{Refusal}
use Rattle.chi_lanes.specs.declared.reply.Reply.{Reply}
use Rattle.chi_lanes.specs.declared.reply.Reply.TheVariants.{Comp, CompData}
use Rattle.chi_json.specs.declared.member.MemberFault.{MemberFault}
use Rattle.chi_json.specs.declared.member.MemberFault.TheVariants as member_fault
use Rattle.chi_json.specs.declared.fault.ObjectFault.TheVariants.{NotObject, UnknownMember}
use Rattle.chi_json.specs.Members.{◌>>=◌, member_by, number_of, or_else}
use Rattle.chi_json.specs.Unknown.{unknown_in}
use Rattle.chi_json.specs.Values.{hex_bytes}
use Rattle.chi_trace.specs.RequestFields.{access_of, as_operation}
use Rattle.chi_trace.specs.declared.request_fields.RequestFields.{RequestFields}
use Rattle.chi_trace.specs.declared.operation.Operation.{Operation}
use Rattle.chi_reading.specs.declared.member.Member.{Member}
use Rattle.chi_reading.specs.declared.member.Member.TheVariants as member
use Rattle.chi_reading.specs.Member.{member_name, request_members}
use Rattle.chi_reading.specs.declared.stated.Outcome.{Outcome}
use Rattle.chi_reading.specs.declared.stated.Outcome.TheVariants.{Accepted, Refused}
use Rattle.chi_reading.specs.declared.stated.Stated.{Stated}
use Rattle.chi_reading.specs.declared.fault.RequestFault.{RequestFault}
use Rattle.chi_reading.specs.declared.fault.RequestFault.TheVariants as request_fault
use Rattle.chi_reading.specs.declared.fault.TraceFault.{TraceFault}
use Rattle.chi_reading.specs.declared.fault.TraceFault.TheVariants.{TooManyRequests, InRequest}
use Rattle.chi_reading.specs.Faults.{faultless, of_request}
use Rattle.chi_reading.specs.Refused.{is_refused_so, refusal_of}

-- the fields of the request with this number that an object states, with no data
unfoldable pub fields_of : ℕ → Data → Result RequestFields (MemberFault Member)
fields_of number d = do
  src ← number_of member_name member.Src 65535 d
  txn ← number_of member_name member.Txn 65535 d
  opcode ← number_of member_name member.Opcode 255 d
  size ← number_of member_name member.Size 7 d
  addr ← number_of member_name member.Addr (2 ^ 64 - 1) d
  endian ← number_of member_name member.Endian 1 d
  Ok (record { number = number; src = src; txn = txn; opcode = opcode; size = size; addr = addr; endian = endian == 1; be = 0; lanes = replicate 16 0 })

-- the request with this number that an object states, with its data
unfoldable pub stated_request : ℕ → Data → Result RequestFields (MemberFault Member)
stated_request number d = do
  fields ← fields_of number d
  be ← number_of member_name member.Be 65535 d
  lanes ← member_by member_name member.Lanes (hex_bytes 16) d
  Ok (record fields { be = be; lanes = lanes })

-- when it ended: a request without an end was open when the trace ended
unfoldable pub end_of : Data → Result ℕ (MemberFault Member)
end_of d = if is_none (get (member_name member.End) d) then Ok (2 ^ 64 - 1) else number_of member_name member.End (2 ^ 64 - 1) d

-- what was answered: `comp`, or the data packet as 32 hex digits, lane 0 first
abbrev pub answer_of : Data → Option Reply
answer_of d = option_and_then (λ text. if bytes_eq text (codes "comp") then Some Comp else option_map CompData (hex_bytes 16 d)) (as_str d)

-- the same, or null where it was not seen
abbrev pub seen_of : Data → Option (Option Reply)
seen_of d = if is_some (as_null d) then Some None else option_map Some (answer_of d)

-- the members `reply` and `end`: where there is no end there need be no reply
abbrev pub reply_by : Option Data → Option Data → Result (Option Reply) (MemberFault Member)
reply_by None None = Ok None
reply_by None (Some end) = Err (member_fault.Missing member.Reply)
reply_by (Some reply) end = ok_or (seen_of reply) (member_fault.BadMember member.Reply)

-- what came of a request, by the members `refused`, `reply` and `end`: it was refused where the first is there
abbrev pub outcome_by : Option Data → Option Data → Option Data → Result Outcome (MemberFault Member)
outcome_by None reply end = do
  seen ← reply_by reply end
  Ok (Accepted seen)
outcome_by (Some refused) reply end = do
  reason ← ok_or (refusal_of refused) (member_fault.BadMember member.Refused)
  Ok (Refused reason)

-- what the request with this number states
unfoldable pub stated_of : ℕ → Data → Result Stated (MemberFault Member)
stated_of number d = do
  fields ← stated_request number d
  start ← number_of member_name member.Start (2 ^ 64 - 1) d
  end ← end_of d
  outcome ← outcome_by (get (member_name member.Refused) d) (get (member_name member.Reply) d) (get (member_name member.End) d)
  Ok (record { fields = fields; start = start; end = end; outcome = outcome })

-- the members that a request of this outcome has
abbrev pub members_of : Outcome → List (List Member)
members_of (Accepted reply) = (member.Start ∷ member.End ∷ member.Reply ∷ []) ∷ request_members ∷ []
members_of (Refused reason) = (member.Start ∷ member.End ∷ member.Refused ∷ []) ∷ request_members ∷ []

-- the same of the element at a place
unfoldable pub stated_at : ℕ → Data → Result Stated RequestFault
stated_at place d = do
  members ← ok_or (as_object d) (request_fault.Object NotObject)
  stated ← or_else (of_request d) (stated_of place d)
  faultless (λ name. request_fault.Object (UnknownMember name)) (unknown_in member_name (members_of stated.outcome) members) stated

-- the operation that was observed of a request, with this reply
unfoldable pub observed_of : Option Extent → Stated → Option Reply → Result Operation RequestFault
observed_of region s reply = do
  access ← or_else request_fault.Refused (access_of region s.fields)
  if nat_lt s.end s.start then Err request_fault.EndsBeforeStart
      else Ok (as_operation s.fields access s.start s.end reply)

-- why a request was refused, where the home refuses it for this reason
unfoldable pub refused_of : Option Extent → Stated → Refusal → Result Refusal RequestFault
refused_of region s reason =
    if not (is_refused_so reason (access_of region s.fields)) then Err request_fault.NotRefusedSo
    else if nat_lt s.end s.start then Err request_fault.EndsBeforeStart
    else Ok reason

-- The operations of the requests that were accepted, and why each of the others was refused. An operation's number is its
-- place in the text, counted from 0.
pub record Completed : Type 0 where
  pub operations : List Operation
  pub refusals : List Refusal

-- no request
abbrev pub none_completed : Completed
none_completed = record { operations = []; refusals = [] }

-- those of some requests, and then those of others
abbrev pub joined : Completed → Completed → Completed
joined first rest = record { operations = first.operations ++ rest.operations; refusals = first.refusals ++ rest.refusals }

-- one that was accepted
abbrev pub one_accepted : Operation → Completed
one_accepted operation = record { operations = operation ∷ []; refusals = [] }

-- one that was refused
abbrev pub one_refused : Refusal → Completed
one_refused reason = record { operations = []; refusals = reason ∷ [] }

-- that of one request, by what came of it
abbrev pub completed_by : ℕ → Option Extent → Stated → Outcome → Result Completed TraceFault
completed_by place region s (Accepted reply) = do
  operation ← or_else (InRequest place) (observed_of region s reply)
  Ok (one_accepted operation)
completed_by place region s (Refused reason) = do
  refusal ← or_else (InRequest place) (refused_of region s reason)
  Ok (one_refused refusal)

-- that of the element at a place
unfoldable pub completed_at : ℕ → Option Extent → Data → Result Completed TraceFault
completed_at place region d = do
  stated ← or_else (InRequest place) (stated_at place d)
  completed_by place region stated stated.outcome

-- those of an array's elements, the first of which has this place
unfoldable pub completed_of : ℕ → Option Extent → Items → Result Completed TraceFault
completed_of place region no_items = Ok none_completed
completed_of place region (item d ds) = do
  first ← completed_at place region d
  rest ← completed_of (place + 1) region ds
  Ok (joined first rest)

-- those of an array of at most 1,048,576
unfoldable pub all_completed : Option Extent → Items → Result Completed TraceFault
all_completed region elements = if nat_lt 1048576 (items_len elements) then Err TooManyRequests else completed_of 0 region elements
