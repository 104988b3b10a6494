-- a memory of bytes, and the words of its granules
use Rattle.std.specs.Prelude.{ℕ, zero, suc, ◌+◌, ◌-◌, ◌*◌, ◌/◌, ◌<◌, List, [], ◌∷◌, length, slice_index, ◌&&◌, if◌then◌else◌, ◌==◌, nat_lt, nat_le}
use Rattle.std.specs.Int.{bit_at}
use Rattle.chi_fields.specs.Extent.{Extent}
use Rattle.chi_fields.specs.Access.{lane_of}
use Rattle.chi_lanes.specs.Bytes.{little}

-- the byte at each address
abbrev pub Memory : Type 0
Memory = ℕ → ℕ

-- each byte is below 256
abbrev pub IsMemory : Memory → Type 0
IsMemory m = (x : ℕ) → m x < 256

-- so many bytes from an address on
unfoldable pub bytes_from : Memory → ℕ → ℕ → List ℕ
bytes_from m addr zero = []
bytes_from m addr (suc n) = m addr ∷ bytes_from m (addr + 1) n

-- the memory with these bytes from an address on, and no other byte changed
unfoldable pub with_bytes : Memory → ℕ → List ℕ → Memory
with_bytes m addr bs x = if nat_le addr x && nat_lt x (addr + length bs) then slice_index bs (x - addr) else m x

-- the number of the eight bytes from an address on
unfoldable pub word_at : Memory → ℕ → ℕ
word_at m start = little (bytes_from m start 8)

-- where the granule of an address starts
abbrev pub granule_start : ℕ → ℕ
granule_start addr = addr / 8 * 8

-- the word of a region's granule
abbrev pub word : Memory → Extent → ℕ → ℕ
word m region granule = word_at m (region.base + 8 * granule)

-- the memory with the enabled lanes of n bytes from an address on, and no other byte changed
unfoldable pub with_enabled : List ℕ → ℕ → Memory → ℕ → ℕ → Memory
with_enabled lanes enables m addr n x =
    if nat_le addr x && (nat_lt x (addr + n) && bit_at enables (lane_of x) == 1) then slice_index lanes (lane_of x) else m x
