-- what an access leaves of a memory: bytes, and the words of every other granule
use Rattle.std.proofs.Common.{◌≡◌, ◌≢◌, ℕ, ◌+◌, ◌-◌, ◌*◌, ◌/◌, ◌%◌, ◌<◌, ◌≤◌, ◌⊎◌, inl, inr, Bool, true, false, cond, List, length, refl, sym, ◌∙◌, arith}
use Rattle.std.proofs.lemmas.Bool.{and_parts, cases_lt, leb-true}
use Rattle.chi_fields.specs.declared.kind.Kind.{Kind}
use Rattle.chi_fields.specs.declared.kind.Op.{Op}
use Rattle.chi_fields.specs.declared.kind.Kind.TheVariants.{Read, Write, Store, Load, Swap, Compare}
use Rattle.chi_fields.specs.Extent.{Extent, IsRegion, granule_of, lies_in}
use Rattle.chi_fields.specs.Access.{IsLawful, IsLen, Access, lane_of}
use Rattle.chi_lanes.specs.After.{after, after_as, old, same_bytes}
use Rattle.chi_lanes.specs.Bytes.{AreBytes}
use Rattle.chi_lanes.specs.Combination.{combine}
use Rattle.chi_lanes.specs.Memory.{Memory, IsMemory, granule_start, with_bytes, word, word_at}
use Rattle.chi_lanes.specs.Packet.{other_half, sent, swap_value}
use Rattle.chi_lanes.proofs.ByteLists.{AreBytes-slice_range}
use Rattle.chi_lanes.proofs.CombineLemmas.{AreBytes-combine, length-combine}
use Rattle.chi_lanes.proofs.MemoryLemmas.{AreBytes-bytes_from, IsMemory-with_bytes, IsMemory-with_enabled, length-bytes_from, word_at-outside, word_at-outside_enabled}
use Rattle.chi_lanes.proofs.Operands.{IsPlaced, other_within, placed}
use Rattle.chi_lanes.proofs.Runs.{length-slice_range}

-- a granule that does not start where the operand's does lies below the operand or above it
elsewhere : (addr len s : ℕ) → IsPlaced addr len → s % 8 ≡ 0 → s ≢ granule_start addr → (s + 8 ≤ addr) ⊎ (addr + len ≤ s)
elsewhere addr len s place aligned other = elim (cases_lt s (granule_start addr)) [
  | inl below ↦ let room = place.room in inl (omega arith)
  | inr above ↦ let room = place.room in inr (omega arith)
]

-- the sent data is as long as the operand
pub length-sent : (o : Access) → IsLawful o → length (sent o.lanes (lane_of o.addr) o.len) ≡ o.len
length-sent o is =
    let place = placed o.addr o.len is.part is.aligned in
    length-slice_range o.lanes (lane_of o.addr) o.len (rw is.packet place.packet)

-- the old bytes are as many as the sent ones
length-old : (o : Access) → IsLawful o → (m : Memory) → length (old o m) ≡ length (sent o.lanes (lane_of o.addr) o.len)
length-old o is m = length-bytes_from m o.addr o.len ∙ sym (length-sent o is)

-- the swap value is as long as the operand
pub length-swap_value : (lanes : List ℕ) (l len : ℕ) → length lanes ≡ 16 → IsLen len → l < 16 → length (swap_value lanes l len) ≡ len
length-swap_value lanes l len whole part inside = length-slice_range lanes (other_half l len) len (rw whole (other_within l len part inside))

-- the swap value is of bytes
AreBytes-swap_value : (lanes : List ℕ) (l len : ℕ) → AreBytes lanes → AreBytes (swap_value lanes l len)
AreBytes-swap_value lanes l len are = AreBytes-slice_range lanes (other_half l len) (other_half l len + len) are

-- what an access combines is of bytes
AreBytes-combined : (op : Op) (o : Access) (m : Memory) → IsMemory m → IsLawful o
    → AreBytes (combine op o.endian (old o m) (sent o.lanes (lane_of o.addr) o.len))
AreBytes-combined op o m is lawful =
    let l = lane_of o.addr in
    AreBytes-combine op o.endian (old o m) (sent o.lanes l o.len) (AreBytes-bytes_from m is o.addr o.len) (AreBytes-slice_range o.lanes l (l + o.len) lawful.bytes)

-- and as long as the operand
pub length-combined : (op : Op) (o : Access) (m : Memory) → IsLawful o
    → length (combine op o.endian (old o m) (sent o.lanes (lane_of o.addr) o.len)) ≡ o.len
length-combined op o m lawful =
    length-combine op o.endian (old o m) (sent o.lanes (lane_of o.addr) o.len) (length-old o lawful m) ∙ length-bytes_from m o.addr o.len

-- an access of any kind leaves a memory a memory
IsMemory-after_as : (kind : Kind) (o : Access) (m : Memory) → IsMemory m → IsLawful o → IsMemory (after_as kind o m)
IsMemory-after_as Read o m is lawful = is
IsMemory-after_as Write o m is lawful = IsMemory-with_enabled o.lanes o.enables m lawful.bytes is o.addr o.len
IsMemory-after_as (Store op) o m is lawful = IsMemory-with_bytes m is o.addr _ (AreBytes-combined op o m is lawful)
IsMemory-after_as (Load op) o m is lawful = IsMemory-with_bytes m is o.addr _ (AreBytes-combined op o m is lawful)
IsMemory-after_as Swap o m is lawful =
    let l = lane_of o.addr in
    IsMemory-with_bytes m is o.addr (sent o.lanes l o.len) (AreBytes-slice_range o.lanes l (l + o.len) lawful.bytes)
IsMemory-after_as Compare o m is lawful = by_test (same_bytes (old o m) (sent o.lanes (lane_of o.addr) o.len))
  where
    by_test : (b : Bool) → IsMemory (cond b (with_bytes m o.addr (swap_value o.lanes (lane_of o.addr) o.len)) m)
    by_test true = IsMemory-with_bytes m is o.addr (swap_value o.lanes (lane_of o.addr) o.len) (AreBytes-swap_value o.lanes (lane_of o.addr) o.len lawful.bytes)
    by_test false = is

-- a lawful access leaves a memory a memory
pub IsMemory-after : (o : Access) (m : Memory) → IsMemory m → IsLawful o → IsMemory (after o m)
IsMemory-after o m is lawful = IsMemory-after_as o.kind o m is lawful

-- a write that is as long as the operand leaves the words of other granules
written_other : (o : Access) (m : Memory) (bs : List ℕ) (s : ℕ) → IsLawful o → length bs ≡ o.len → s % 8 ≡ 0 → s ≢ granule_start o.addr
    → word_at (with_bytes m o.addr bs) s ≡ word_at m s
written_other o m bs s lawful long aligned other =
    let place = placed o.addr o.len lawful.part lawful.aligned in
    word_at-outside m o.addr bs s (rw long (elsewhere o.addr o.len s place aligned other))

-- an access of any kind leaves the words of other granules
word_at-after_as : (kind : Kind) (o : Access) (m : Memory) (s : ℕ) → IsLawful o → s % 8 ≡ 0 → s ≢ granule_start o.addr
    → word_at (after_as kind o m) s ≡ word_at m s
word_at-after_as Read o m s lawful aligned other = refl
word_at-after_as Write o m s lawful aligned other =
    let place = placed o.addr o.len lawful.part lawful.aligned in
    word_at-outside_enabled o.lanes o.enables m o.addr o.len s (elsewhere o.addr o.len s place aligned other)
word_at-after_as (Store op) o m s lawful aligned other = written_other o m _ s lawful (length-combined op o m lawful) aligned other
word_at-after_as (Load op) o m s lawful aligned other = written_other o m _ s lawful (length-combined op o m lawful) aligned other
word_at-after_as Swap o m s lawful aligned other =
    written_other o m (sent o.lanes (lane_of o.addr) o.len) s lawful (length-sent o lawful) aligned other
word_at-after_as Compare o m s lawful aligned other = by_test (same_bytes (old o m) (sent o.lanes (lane_of o.addr) o.len))
  where
    lane_below : lane_of o.addr < 16
    lane_below = omega arith

    by_test : (b : Bool) → word_at (cond b (with_bytes m o.addr (swap_value o.lanes (lane_of o.addr) o.len)) m) s ≡ word_at m s
    by_test true =
        written_other o m (swap_value o.lanes (lane_of o.addr) o.len) s lawful (length-swap_value o.lanes (lane_of o.addr) o.len lawful.packet lawful.part lane_below) aligned other
    by_test false = refl

-- a lawful access leaves the word of every granule but its own
pub word_at-after_other : (o : Access) (m : Memory) (s : ℕ) → IsLawful o → s % 8 ≡ 0 → s ≢ granule_start o.addr
    → word_at (after o m) s ≡ word_at m s
word_at-after_other o m s lawful aligned other = word_at-after_as o.kind o m s lawful aligned other

-- the start of a granule, in a region that begins on a line
start_of_granule : (base addr g : ℕ) → base % 64 ≡ 0 → base ≤ addr → g ≢ (addr - base) / 8
    → ((base + 8 * g) % 8 ≡ 0) × (base + 8 * g ≢ granule_start addr)
start_of_granule base addr g line above other = (omega arith, λ same. other (omega arith))

-- the same over a region in which the access lies
pub word-after_other : (o : Access) (m : Memory) (region : Extent) (g : ℕ) → IsLawful o → IsRegion region
    → lies_in o.addr o.len region ≡ true → g ≢ granule_of o.addr region → word (after o m) region g ≡ word m region g
word-after_other o m region g lawful is_region fits other =
    let above : region.base ≤ o.addr = leb-true region.base o.addr (and_parts _ _ fits).0 in
    let start = start_of_granule region.base o.addr g is_region.line above other in
    word_at-after_other o m (region.base + 8 * g) lawful start.0 start.1
