-- operands that are only added to, and how far sums can take their numbers
use Rattle.std.specs.Prelude.{◌≡◌, ℕ, zero, suc, ◌+◌, ◌-◌, ◌*◌, ◌^◌, ◌<◌, ◌≤◌, ◌&&◌, ◌⊎◌, nat_le, nat_lt, Bool, if◌then◌else◌, true, List, length, Option, None, Some, MatchOption}
use Rattle.chi_fields.specs.Access.{Access, IsLawful, lane_of}
use Rattle.chi_fields.specs.declared.kind.Kind.{Kind}
use Rattle.chi_fields.specs.declared.kind.Kind.TheVariants.{Load, Store}
use Rattle.chi_fields.specs.declared.kind.Op.TheVariants.{Add}
use Rattle.chi_lanes.specs.After.{old}
use Rattle.chi_lanes.specs.Bytes.{number_in}
use Rattle.chi_lanes.specs.Memory.{granule_start}
use Rattle.chi_lanes.specs.Packet.{sent}
use Rattle.chi_trace.specs.declared.operation.Operation.{Operation}
use Rattle.chi_trace.specs.Explains.{at}
use Rattle.chi_trace.specs.Granules.{with_word}
use Rattle.chi_search.specs.declared.counting.Span.{Span}
use Rattle.chi_search.specs.Positions.{Position, is_left}
use Rattle.chi_search.specs.Within.{KeepsWithin}

-- the number that an operand's bytes of a word spell, in its byte order
abbrev pub counter_of : Access → ℕ → ℕ
counter_of o w = number_in o.endian (old o (with_word (granule_start o.addr) w))

-- what a sum adds: the number that was sent
abbrev pub sent_number : Access → ℕ
sent_number o = number_in o.endian (sent o.lanes (lane_of o.addr) o.len)

-- what an operation adds, if it is a sum
abbrev pub added_by : Kind → ℕ → Option ℕ
added_by (Store Add) n = Some n
added_by (Load Add) n = Some n
added_by _ n = None

abbrev pub added : Operation → Option ℕ
added op = added_by op.access.kind (sent_number op.access)

-- the operands are the same bytes, in the same byte order
abbrev pub IsSameOperand : Access → Access → Type 0
IsSameOperand x y = (x.addr ≡ y.addr) × (x.len ≡ y.len) × (x.endian ≡ y.endian)

-- To add the lower half of the numbers is to go up by as many, and to add the upper half is to go down by what is left to the next
-- power of 256.
abbrev pub up_by : ℕ → Option ℕ → ℕ
up_by len None = 0
up_by len (Some n) = if nat_lt (2 * n) (256 ^ len) then n else 0

abbrev pub down_by : ℕ → Option ℕ → ℕ
down_by len None = 0
down_by len (Some n) = if nat_lt (2 * n) (256 ^ len) then 0 else 256 ^ len - n

-- the operation is left, and starts by the time
abbrev pub counts : List Operation → Position → ℕ → ℕ → Bool
counts ops p until i = is_left (length ops) p i && nat_le (at ops i).start until

-- how far it goes
abbrev pub ups : List Operation → Position → ℕ → ℕ → ℕ → ℕ
ups ops p until len i = if counts ops p until i then up_by len (added (at ops i)) else 0

abbrev pub downs : List Operation → Position → ℕ → ℕ → ℕ → ℕ
downs ops p until len i = if counts ops p until i then down_by len (added (at ops i)) else 0

-- the sum of so many numbers
unfoldable pub sum_below : (ℕ → ℕ) → ℕ → ℕ
sum_below f zero = 0
sum_below f (suc n) = sum_below f n + f n

-- An operation adds to the counter, or keeps its bits.
abbrev pub AddsOrKeeps : Access → ℕ → Operation → Type 0
AddsOrKeeps o bits op = MatchOption (added op) (KeepsWithin bits op) (λ n. IsLawful op.access × IsSameOperand op.access o)

-- Of the operations before a place those that are left and start by a time add to the counter, or keep its bits, and they go so far.
pub record IsSpan (ops : List Operation) (p : Position) (until : ℕ) (o : Access) (bits place : ℕ) (span : Span) : Type 0 where
  pub each : (i : ℕ) → i < place → counts ops p until i ≡ true → AddsOrKeeps o bits (at ops i)
  pub up : span.up ≡ sum_below (ups ops p until o.len) place
  pub down : span.down ≡ sum_below (downs ops p until o.len) place

-- A counter that goes so far, up and down, from one number, where after the greatest comes 0, does not come to another one.
abbrev pub IsBeyond : Span → ℕ → ℕ → ℕ → Type 0
IsBeyond span from to limit =
    ((from ≤ to) × (span.up + from < to) × (span.down + to < from + limit)) ⊎ ((to < from) × (span.down + to < from) × (span.up + from < to + limit))
