-- the flit that an object states, or its first fault
use Rattle.std.specs.Prelude.{ℕ, ◌-◌, ◌%◌, ◌^◌, ◌==◌, nat_le, Bool, true, if◌then◌else◌, List, [], ◌∷◌, get_or, Option, None, Result, Ok, Err}
use Rattle.serde_json.specs.Data.{Data as Value, Members}
use Rattle.serde_json.specs.Find.{get}
use Rattle.chi_json.specs.Members.{◌>>=◌, member_by, number_of, or_else}
use Rattle.chi_json.specs.Unknown.{unknown_in}
use Rattle.chi_json.specs.declared.fault.ObjectFault.TheVariants.{UnknownMember}
use Rattle.chi_json.specs.declared.member.MemberFault.{MemberFault}
use Rattle.chi_flits.specs.declared.flit.Chunk.{Chunk}
use Rattle.chi_flits.specs.declared.flit.DataFlit.{DataFlit}
use Rattle.chi_flits.specs.declared.flit.Flit.{Flit}
use Rattle.chi_flits.specs.declared.flit.FlitKind.{FlitKind}
use Rattle.chi_flits.specs.declared.flit.FlitKind.TheVariants as kind
use Rattle.chi_flits.specs.declared.flit.RequestFlit.{RequestFlit}
use Rattle.chi_flits.specs.declared.flit.ResponseFlit.{ResponseFlit}
use Rattle.chi_flits.specs.Opcodes.{gives_dbid, is_atomic, is_comp, is_read_data, is_response, is_write_data, takes_txn}
use Rattle.chi_flit_text.specs.declared.fault.FlitLineFault.{FlitLineFault}
use Rattle.chi_flit_text.specs.declared.fault.FlitLineFault.TheVariants as fault
use Rattle.chi_flit_text.specs.declared.flit_line.FlitLine.{FlitLine}
use Rattle.chi_flit_text.specs.declared.member.FlitMember.{FlitMember}
use Rattle.chi_flit_text.specs.declared.member.FlitMember.TheVariants as member
use Rattle.chi_flit_text.specs.declared.numbers.DataNumbers.{DataNumbers}
use Rattle.chi_flit_text.specs.declared.numbers.RequestNumbers.{RequestNumbers}
use Rattle.chi_flit_text.specs.declared.numbers.ResponseNumbers.{ResponseNumbers}
use Rattle.chi_flit_text.specs.declared.numbers.Numbers.{Numbers}
use Rattle.chi_flit_text.specs.declared.numbers.Numbers.TheVariants as numbers
use Rattle.chi_flit_text.specs.Faults.{faultless, of_flit}
use Rattle.chi_flit_text.specs.LookedAt.{has_addr, has_excl, has_write_error, looked_at}
use Rattle.chi_flit_text.specs.Member.{member_name, members_of}
use Rattle.chi_flit_text.specs.Stated.{channel_of, stated_of, validity_by}

-- ---- by channel: the first member of unknown value that is looked at, in the order of the members

unfoldable pub request_flit : ℕ → RequestNumbers → Result RequestFlit FlitLineFault
request_flit number n = do
  opcode ← looked_at true member.Opcode 0 n.opcode
  src ← looked_at (takes_txn opcode) member.Src 0 n.src
  txn ← looked_at (takes_txn opcode) member.Txn 0 n.txn
  size ← looked_at (has_addr opcode) member.Size 0 n.size
  addr ← looked_at (has_addr opcode) member.Addr 0 n.addr
  endian ← looked_at (is_atomic opcode) member.Endian 0 n.endian
  excl ← looked_at (has_excl opcode) member.Excl 0 n.excl
  Ok (record { number = number; src = src; txn = txn; opcode = opcode; size = size; addr = addr; endian = endian == 1; excl = excl == 1 })

unfoldable pub response_flit : ResponseNumbers → Result ResponseFlit FlitLineFault
response_flit n = do
  opcode ← looked_at true member.Opcode 0 n.opcode
  tgt ← looked_at (is_response opcode) member.Tgt 0 n.tgt
  txn ← looked_at (is_response opcode) member.Txn 0 n.txn
  resp_err ← looked_at (is_comp opcode) member.RespErr 0 n.resp_err
  dbid ← looked_at (gives_dbid opcode) member.Dbid 0 n.dbid
  Ok (record { tgt = tgt; txn = txn; opcode = opcode; resp_err = resp_err; dbid = dbid })

-- the DataIDs of a flit of so many quarters of the line
abbrev pub is_data_id : ℕ → ℕ → Bool
is_data_id width data_id = if width == 1 then true else if width == 2 then data_id % 2 == 0 else data_id == 0

-- quarter k of the line, of a flit whose first 16 lanes are the quarter of its DataID
abbrev pub quarter_of : List (Option Chunk) → ℕ → ℕ → Option Chunk
quarter_of chunks data_id k = if nat_le data_id k then get_or chunks (k - data_id) None else None

abbrev pub placed : List (Option Chunk) → ℕ → List (Option Chunk)
placed chunks data_id = quarter_of chunks data_id 0 ∷ quarter_of chunks data_id 1 ∷ quarter_of chunks data_id 2 ∷ quarter_of chunks data_id 3 ∷ []

-- the quarters that a flit has: none where it is not looked at
unfoldable pub quarters_of : Bool → ℕ → DataNumbers → Result (List (Option Chunk)) FlitLineFault
quarters_of is_looked_at data_id n =
    if is_looked_at then (if is_data_id n.width data_id then Ok (placed n.chunks data_id) else Err fault.DataId)
    else Ok (None ∷ None ∷ None ∷ None ∷ [])

unfoldable pub read_flit : DataNumbers → Result DataFlit FlitLineFault
read_flit n = do
  opcode ← looked_at true member.Opcode 0 n.opcode
  tgt ← looked_at (is_read_data opcode) member.Tgt 0 n.node
  txn ← looked_at (is_read_data opcode) member.Txn 0 n.txn
  resp_err ← looked_at (is_read_data opcode) member.RespErr 0 n.resp_err
  data_id ← looked_at (is_read_data opcode) member.DataId 0 n.data_id
  chunks ← quarters_of (is_read_data opcode) data_id n
  Ok (record { node = tgt; txn = txn; opcode = opcode; resp_err = resp_err; chunks = chunks })

unfoldable pub write_flit : DataNumbers → Result DataFlit FlitLineFault
write_flit n = do
  opcode ← looked_at true member.Opcode 0 n.opcode
  src ← looked_at (is_write_data opcode) member.Src 0 n.node
  txn ← looked_at (is_write_data opcode) member.Txn 0 n.txn
  data_id ← looked_at (is_write_data opcode) member.DataId 0 n.data_id
  resp_err ← looked_at (has_write_error opcode) member.RespErr 0 n.resp_err
  chunks ← quarters_of (is_write_data opcode) data_id n
  Ok (record { node = src; txn = txn; opcode = opcode; resp_err = resp_err; chunks = chunks })

-- what passes at the port, of what a channel's members state
unfoldable pub kind_of : ℕ → Numbers → Result FlitKind FlitLineFault
kind_of number (numbers.Request n) = request_flit number n >>= λ flit. Ok (kind.Request flit)
kind_of number (numbers.Response n) = response_flit n >>= λ flit. Ok (kind.Response flit)
kind_of number (numbers.ReadData n) = read_flit n >>= λ flit. Ok (kind.ReadData flit)
kind_of number (numbers.WriteData n) = write_flit n >>= λ flit. Ok (kind.WriteData flit)

-- ---- the object

-- what the members of an object state
unfoldable pub line_of : Value → Result FlitLine (MemberFault FlitMember)
line_of d = do
  channel ← member_by member_name member.Channel channel_of d
  time ← number_of member_name member.Time (2 ^ 64 - 1) d
  numbers ← stated_of channel d
  is_valid ← validity_by (get (member_name member.Valid) d)
  Ok (record { channel = channel; time = time; numbers = numbers; is_valid = is_valid })

-- the flit of an object on the line with a number, which has no other members
unfoldable pub object_flit : ℕ → Value → Members → Result Flit FlitLineFault
object_flit number d members = do
  line ← or_else (of_flit d) (line_of d)
  valid_line ← if line.is_valid then Ok line else Err fault.UnknownValid
  whole_line ← faultless (λ name. fault.Object (UnknownMember name)) (unknown_in member_name (members_of line.channel) members) valid_line
  told ← kind_of number whole_line.numbers
  Ok (record { time = whole_line.time; kind = told })
