-- what was sent for an operand, and what came back of it: its bytes alone, in the order of their addresses
use Rattle.std.specs.Prelude.{ℕ, zero, suc, ◌+◌, ◌%◌, ◌==◌, ◌&&◌, nat_lt, Bool, false, true, if◌then◌else◌, List, [], ◌∷◌, ◌++◌, codes, decimal, flat_map, slice_index, slice_range, Option, None, Some}
use Rattle.std.specs.Int.{bit_at}
use Rattle.hex.specs.Hex.{encode_lower}
use Rattle.chi_fields.specs.Access.{Access, lane_of}
use Rattle.chi_fields.specs.declared.kind.Kind.{Kind}
use Rattle.chi_fields.specs.declared.kind.Kind.TheVariants.{Read, Write, Store, Load, Swap, Compare}
use Rattle.chi_fields.specs.declared.kind.Op.{Op}
use Rattle.chi_fields.specs.declared.kind.Op.TheVariants.{Add, Clr, Eor, Set, SMax, SMin, UMax, UMin}
use Rattle.chi_lanes.specs.Packet.{sent, swap_value}
use Rattle.chi_lanes.specs.declared.reply.Reply.{Reply}
use Rattle.chi_lanes.specs.declared.reply.Reply.TheVariants.{Comp, CompData}

-- bytes, each as two hex digits
abbrev pub byte_text : ℕ → List ℕ
byte_text byte = encode_lower (byte ∷ [])

abbrev pub bytes_text : List ℕ → List ℕ
bytes_text bytes = flat_map byte_text bytes

-- the byte in a lane where it is enabled
abbrev pub enabled_byte : List ℕ → ℕ → ℕ → List ℕ
enabled_byte lanes enables lane = if bit_at enables lane == 1 then byte_text (slice_index lanes lane) else codes "--"

-- so many of them from a lane on
unfoldable pub enabled_text : List ℕ → ℕ → ℕ → ℕ → List ℕ
enabled_text lanes enables lane zero = []
enabled_text lanes enables lane (suc n) = enabled_byte lanes enables lane ++ enabled_text lanes enables (lane + 1) n

-- the bytes of the operand in the data that were sent, and those that an AtomicCompare puts there
abbrev pub sent_bytes : Access → List ℕ
sent_bytes a = sent a.lanes (lane_of a.addr) a.len

abbrev pub swap_bytes : Access → List ℕ
swap_bytes a = swap_value a.lanes (lane_of a.addr) a.len

-- what was sent
abbrev pub sent_by : Kind → Access → List ℕ
sent_by Read a = []
sent_by Write a = codes "  sent " ++ enabled_text a.lanes a.enables (lane_of a.addr) a.len
sent_by (Store op) a = codes "  sent " ++ bytes_text (sent_bytes a)
sent_by (Load op) a = codes "  sent " ++ bytes_text (sent_bytes a)
sent_by Swap a = codes "  sent " ++ bytes_text (sent_bytes a)
sent_by Compare a = codes "  compare " ++ bytes_text (sent_bytes a) ++ codes " swap " ++ bytes_text (swap_bytes a)

unfoldable pub sent_text : Access → List ℕ
sent_text a = sent_by a.kind a

-- an operation whose result rests on the order of the bytes
abbrev pub is_arithmetic : Op → Bool
is_arithmetic Add = true
is_arithmetic Clr = false
is_arithmetic Eor = false
is_arithmetic Set = false
is_arithmetic SMax = true
is_arithmetic SMin = true
is_arithmetic UMax = true
is_arithmetic UMin = true

abbrev pub has_order : Kind → Bool
has_order Read = false
has_order Write = false
has_order (Store op) = is_arithmetic op
has_order (Load op) = is_arithmetic op
has_order Swap = false
has_order Compare = false

-- the order of the bytes, where it counts and is not the usual one
unfoldable pub order_text : Access → List ℕ
order_text a = if has_order a.kind && (a.endian && nat_lt 1 a.len) then codes "  big-endian" else []

-- where the operand lies in its granule, and how long it is
unfoldable pub place_text : Access → List ℕ
place_text a = codes "  +" ++ decimal (a.addr % 8) ++ codes " L" ++ decimal a.len

-- what came back
abbrev pub reply_by : Access → Option Reply → List ℕ
reply_by a None = codes "  no reply"
reply_by a (Some Comp) = codes "  comp"
reply_by a (Some (CompData lanes)) = codes "  returned " ++ bytes_text (slice_range lanes (lane_of a.addr) (lane_of a.addr + a.len))

unfoldable pub returned_text : Access → Option Reply → List ℕ
returned_text a reply = reply_by a reply
