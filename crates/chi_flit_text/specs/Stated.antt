-- what the members of a flit state, whatever is looked at of it
use Rattle.std.specs.Prelude.{ℕ, ◌-◌, ◌*◌, ◌/◌, ◌^◌, ◌==◌, nat_le, ◌&&◌, ◌||◌, Bool, true, false, if◌then◌else◌, List, [], codes, length, Option, None, Some, option_and_then, Result, Ok, Err}
use Rattle.std.specs.Option.{ok_or}
use Rattle.std.specs.Str.{bytes_eq}
use Rattle.serde_json.specs.Data.{Data as Value}
use Rattle.serde_json.specs.Find.{as_str, get}
use Rattle.chi_json.specs.Members.{◌>>=◌, member_by}
use Rattle.chi_json.specs.declared.member.MemberFault.{MemberFault}
use Rattle.chi_json.specs.declared.member.MemberFault.TheVariants.{BadMember}
use Rattle.chi_flit_text.specs.declared.channel.Channel.{Channel}
use Rattle.chi_flit_text.specs.declared.channel.Channel.TheVariants as channel
use Rattle.chi_flit_text.specs.declared.member.FlitMember.{FlitMember}
use Rattle.chi_flit_text.specs.declared.member.FlitMember.TheVariants as member
use Rattle.chi_flit_text.specs.declared.numbers.DataNumbers.{DataNumbers}
use Rattle.chi_flit_text.specs.declared.numbers.RequestNumbers.{RequestNumbers}
use Rattle.chi_flit_text.specs.declared.numbers.ResponseNumbers.{ResponseNumbers}
use Rattle.chi_flit_text.specs.declared.numbers.Numbers.{Numbers}
use Rattle.chi_flit_text.specs.declared.numbers.Numbers.TheVariants as numbers
use Rattle.chi_flit_text.specs.Digits.{bits_of, is_text, value_of}
use Rattle.chi_flit_text.specs.Lanes.{chunks_of}
use Rattle.chi_flit_text.specs.Member.{member_name}

-- ---- members

-- a number that is at most a greatest one, or has no value
abbrev pub within : ℕ → Option ℕ → Option (Option ℕ)
within top None = Some None
within top (Some n) = if nat_le n top then Some (Some n) else None

-- the number of 1 to 16 digits
unfoldable pub number_text : ℕ → List ℕ → Option (Option ℕ)
number_text top s = if nat_le 1 (length s) && nat_le (length s) 16 && is_text s then within top (value_of (bits_of s)) else None

unfoldable pub hex_number : FlitMember → ℕ → Value → Result (Option ℕ) (MemberFault FlitMember)
hex_number m top d = member_by member_name m (λ value. option_and_then (number_text top) (as_str value)) d

-- one that may be left out, and is then 0
abbrev pub number_or_zero : FlitMember → ℕ → Option Value → Result (Option ℕ) (MemberFault FlitMember)
number_or_zero m top None = Ok (Some 0)
number_or_zero m top (Some value) = ok_or (option_and_then (number_text top) (as_str value)) (BadMember m)

abbrev pub hex_or_zero : FlitMember → ℕ → Value → Result (Option ℕ) (MemberFault FlitMember)
hex_or_zero m top d = number_or_zero m top (get (member_name m) d)

-- a text of so many digits, of twice or of four times as many
unfoldable pub wide_text : ℕ → List ℕ → Option (List ℕ)
wide_text unit s = if (length s == unit || length s == 2 * unit || length s == 4 * unit) && is_text s then Some s else None

unfoldable pub digits_of : FlitMember → ℕ → Value → Result (List ℕ) (MemberFault FlitMember)
digits_of m unit d = member_by member_name m (λ value. option_and_then (wide_text unit) (as_str value)) d

-- ---- channels

abbrev pub channel_named : List ℕ → Option Channel
channel_named s =
    if bytes_eq s (codes "REQ") then Some channel.Request else (
    if bytes_eq s (codes "RSP") then Some channel.Response else (
    if bytes_eq s (codes "RDAT") then Some channel.ReadData else (
    if bytes_eq s (codes "WDAT") then Some channel.WriteData else None)))

abbrev pub channel_of : Value → Option Channel
channel_of d = option_and_then channel_named (as_str d)

unfoldable pub request_numbers : Value → Result RequestNumbers (MemberFault FlitMember)
request_numbers d = do
  src ← hex_number member.Src 0xffff d
  txn ← hex_number member.Txn 0xffff d
  opcode ← hex_number member.Opcode 0xff d
  size ← hex_number member.Size 7 d
  addr ← hex_number member.Addr (2 ^ 52 - 1) d
  endian ← hex_or_zero member.Endian 1 d
  excl ← hex_or_zero member.Excl 1 d
  Ok (record { src = src; txn = txn; opcode = opcode; size = size; addr = addr; endian = endian; excl = excl })

unfoldable pub response_numbers : Value → Result ResponseNumbers (MemberFault FlitMember)
response_numbers d = do
  tgt ← hex_number member.Tgt 0xffff d
  txn ← hex_number member.Txn 0xffff d
  opcode ← hex_number member.Opcode 0xff d
  resp_err ← hex_number member.RespErr 3 d
  dbid ← hex_number member.Dbid 0xffff d
  Ok (record { tgt = tgt; txn = txn; opcode = opcode; resp_err = resp_err; dbid = dbid })

-- data of so many quarters of the line, with no enables
unfoldable pub read_numbers : Value → Result DataNumbers (MemberFault FlitMember)
read_numbers d = do
  tgt ← hex_number member.Tgt 0xffff d
  txn ← hex_number member.Txn 0xffff d
  opcode ← hex_number member.Opcode 0xff d
  resp_err ← hex_number member.RespErr 3 d
  data_id ← hex_number member.DataId 3 d
  digits ← digits_of member.Data 32 d
  Ok (record { node = tgt; txn = txn; opcode = opcode; resp_err = resp_err; data_id = data_id; width = length digits / 32; chunks = chunks_of [] digits })

-- data with an enable for each lane
unfoldable pub write_numbers : Value → Result DataNumbers (MemberFault FlitMember)
write_numbers d = do
  src ← hex_number member.Src 0xffff d
  txn ← hex_number member.Txn 0xffff d
  opcode ← hex_number member.Opcode 0xff d
  data_id ← hex_number member.DataId 3 d
  be ← digits_of member.Be 4 d
  digits ← digits_of member.Data 32 d
  fitting ← if length digits / 8 == length be then Ok be else Err (BadMember member.Be)
  resp_err ← hex_or_zero member.RespErr 3 d
  Ok (record { node = src; txn = txn; opcode = opcode; resp_err = resp_err; data_id = data_id; width = length digits / 32; chunks = chunks_of fitting digits })

-- what the members of a channel state
unfoldable pub stated_of : Channel → Value → Result Numbers (MemberFault FlitMember)
stated_of channel.Request d = request_numbers d >>= λ n. Ok (numbers.Request n)
stated_of channel.Response d = response_numbers d >>= λ n. Ok (numbers.Response n)
stated_of channel.ReadData d = read_numbers d >>= λ n. Ok (numbers.ReadData n)
stated_of channel.WriteData d = write_numbers d >>= λ n. Ok (numbers.WriteData n)

-- ---- validity

-- whether the valid of a flit is known, by its text
abbrev pub validity_text : List ℕ → Option Bool
validity_text s =
    if bytes_eq s (codes "1") then Some true else (
    if bytes_eq s (codes "x") || bytes_eq s (codes "X") || bytes_eq s (codes "z") || bytes_eq s (codes "Z") then Some false else None)

-- the same of a member that may be left out
abbrev pub validity_by : Option Value → Result Bool (MemberFault FlitMember)
validity_by None = Ok true
validity_by (Some value) = ok_or (option_and_then validity_text (as_str value)) (BadMember member.Valid)
