-- the members of a trace and of an event: their names, and which object may have which
use Rattle.std.specs.Prelude.{ℕ, List, [], ◌∷◌, codes}
use Rattle.chi_reading.specs.declared.member.Member.{Member}
use Rattle.chi_reading.specs.declared.member.Member.TheVariants.{Base, Granules, Image, Requests, Src, Txn, Opcode, Size, Addr, Endian, Be, Lanes, Final, Start, End, Reply, Refused, Event, Time, Id, Bytes, Length, Reason}

abbrev pub member_name : Member → List ℕ
member_name Base = codes "base"
member_name Granules = codes "granules"
member_name Image = codes "image"
member_name Requests = codes "requests"
member_name Src = codes "src"
member_name Txn = codes "txn"
member_name Opcode = codes "op"
member_name Size = codes "size"
member_name Addr = codes "addr"
member_name Endian = codes "endian"
member_name Be = codes "be"
member_name Lanes = codes "lanes"
member_name Final = codes "final"
member_name Start = codes "start"
member_name End = codes "end"
member_name Reply = codes "reply"
member_name Refused = codes "refused"
member_name Event = codes "event"
member_name Time = codes "time"
member_name Id = codes "id"
member_name Bytes = codes "bytes"
member_name Length = codes "length"
member_name Reason = codes "reason"

-- the members of a trace
abbrev pub trace_members : List Member
trace_members = Base ∷ Granules ∷ Image ∷ Final ∷ Requests ∷ []

-- the fields of a request, of a trace and of an event, and its data
abbrev pub request_members : List Member
request_members = Src ∷ Txn ∷ Opcode ∷ Size ∷ Addr ∷ Endian ∷ Be ∷ Lanes ∷ []
