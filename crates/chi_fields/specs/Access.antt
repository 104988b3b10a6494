-- an access: what it does, where, and with which data
use Rattle.std.specs.Prelude.{◌≡◌, ℕ, ◌+◌, ◌-◌, ◌*◌, ◌%◌, ◌^◌, ◌==◌, nat_le, nat_lt, Bool, true, ◌&&◌, ◌||◌, ◌<◌, if◌then◌else◌, List, length, slice_index, ◌⊎◌, IsTrue}
use Rattle.std.specs.Int.{bit_at}
use Rattle.std.specs.List.{list_all, range_with_len}
use Rattle.chi_fields.specs.declared.kind.Kind.{Kind}
use Rattle.chi_fields.specs.declared.kind.Kind.TheVariants.{Read, Write, Compare}

-- len is the operand's length, and lanes are the data packet, lane 0 first
pub record Access : Type 0 where
  pub kind : Kind
  pub addr : ℕ
  pub len : ℕ
  pub endian : Bool
  pub enables : ℕ
  pub lanes : List ℕ

-- the lengths that an operand has
abbrev pub IsLen : ℕ → Type 0
IsLen len = (len ≡ 1) ⊎ ((len ≡ 2) ⊎ ((len ≡ 4) ⊎ (len ≡ 8)))

-- the lane of the byte at an address
abbrev pub lane_of : ℕ → ℕ
lane_of addr = addr % 16

-- The window is the operand's lanes. That of an AtomicCompare is twice as long, and aligned to its length.
abbrev pub window_len : Kind → ℕ → ℕ
window_len Compare len = 2 * len
window_len _ len = len

abbrev pub window_first : Kind → ℕ → ℕ → ℕ
window_first Compare len lane = lane - lane % (2 * len)
window_first _ len lane = lane

-- whether lane i is one of n lanes from a first one on
abbrev pub is_among : ℕ → ℕ → ℕ → Bool
is_among first n i = nat_le first i && nat_lt i (first + n)

-- whether each of the packet's 16 lanes passes a test
abbrev pub each_lane : (ℕ → Bool) → Bool
each_lane test = list_all test (range_with_len 0 16)

-- bit i of the byte enables is 1 only where lane i is one of n lanes from a first one on
unfoldable pub enables_within : ℕ → ℕ → ℕ → Bool
enables_within first n enables = each_lane (λ i. bit_at enables i == 0 || is_among first n i)

-- bit i of the byte enables is 1 exactly where lane i is one of n lanes from a first one on
unfoldable pub enables_exactly : ℕ → ℕ → ℕ → Bool
enables_exactly first n enables = each_lane (λ i. bit_at enables i == (if is_among first n i then 1 else 0))

-- A read's byte enables are ignored. A write's are 1 only in its window, and an atomic's exactly in its window.
abbrev pub enables_fit : Kind → ℕ → ℕ → ℕ → Bool
enables_fit Read len lane enables = true
enables_fit Write len lane enables = enables_within lane len enables
enables_fit kind len lane enables = enables_exactly (window_first kind len lane) (window_len kind len) enables

-- what is true of every access
pub record IsLawful (o : Access) : Type 0 where
  pub part : IsLen o.len
  pub aligned : o.addr % o.len ≡ 0
  pub bits : o.enables < 2 ^ 16
  pub enabled : IsTrue (enables_fit o.kind o.len (lane_of o.addr) o.enables)
  pub packet : length o.lanes ≡ 16
  pub bytes : (i : ℕ) → slice_index o.lanes i < 256
