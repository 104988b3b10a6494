-- the members of a flit: their names, and those of each channel
use Rattle.std.specs.Prelude.{ℕ, List, [], ◌∷◌, codes}
use Rattle.chi_flit_text.specs.declared.channel.Channel.{Channel as ChannelName}
use Rattle.chi_flit_text.specs.declared.channel.Channel.TheVariants as channel
use Rattle.chi_flit_text.specs.declared.member.FlitMember.{FlitMember}
use Rattle.chi_flit_text.specs.declared.member.FlitMember.TheVariants.{Channel, Time, Src, Tgt, Txn, Opcode, Size, Addr, Endian, Excl, RespErr, Dbid, DataId, Be, Data, Valid}

abbrev pub member_name : FlitMember → List ℕ
member_name Channel = codes "channel"
member_name Time = codes "time"
member_name Src = codes "src"
member_name Tgt = codes "tgt"
member_name Txn = codes "txn"
member_name Opcode = codes "opcode"
member_name Size = codes "size"
member_name Addr = codes "addr"
member_name Endian = codes "endian"
member_name Excl = codes "excl"
member_name RespErr = codes "resp_err"
member_name Dbid = codes "dbid"
member_name DataId = codes "data_id"
member_name Be = codes "be"
member_name Data = codes "data"
member_name Valid = codes "valid"

-- the members that a flit of each channel may have
abbrev flit_members : List FlitMember
flit_members = Channel ∷ Time ∷ Valid ∷ []

abbrev pub members_of : ChannelName → List (List FlitMember)
members_of channel.Request = flit_members ∷ (Src ∷ Txn ∷ Opcode ∷ Size ∷ Addr ∷ Endian ∷ Excl ∷ []) ∷ []
members_of channel.Response = flit_members ∷ (Tgt ∷ Txn ∷ Opcode ∷ RespErr ∷ Dbid ∷ []) ∷ []
members_of channel.ReadData = flit_members ∷ (Tgt ∷ Txn ∷ Opcode ∷ RespErr ∷ DataId ∷ Data ∷ []) ∷ []
members_of channel.WriteData = flit_members ∷ (Src ∷ Txn ∷ Opcode ∷ DataId ∷ Be ∷ Data ∷ RespErr ∷ []) ∷ []
