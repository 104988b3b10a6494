-- a masked write of one half of the packet, as the write of its enabled lanes to memory
use Rattle.std.proofs.Common.{◌≡◌, ℕ, ◌+◌, ◌*◌, ◌/◌, ◌^◌, ◌<◌, ◌≤◌, inl, inr, List, slice_index, slice_range, sym, ap, ◌∙◌, arith, ext_get_or}
use Rattle.std.proofs.lemmas.Bool.{cases_lt}
use Rattle.std.proofs.lemmas.Nat.Bits.{bit_at-lt}
use Rattle.std.specs.Int.{bit_at}
use Rattle.chi_lanes.specs.Bytes.{little_bytes, AreBytes}
use Rattle.chi_lanes.specs.Memory.{Memory, IsMemory, word_at, with_enabled}
use Rattle.chi_fields.specs.Access.{lane_of}
use Rattle.chi_lanes.proofs.Digits.{same_from_bytes, length-little_bytes}
use Rattle.chi_lanes.proofs.MemoryLemmas.{get_or-bytes_from, little_bytes-word_at, word_at-below, with_enabled-on, with_enabled-off, IsMemory-with_enabled}
use Rattle.chi_lanes.proofs.Runs.{slice_index-slice_range}

-- each set bit of the enables is a lane of the operand of n bytes at an address
abbrev pub EnablesWithin : ℕ → ℕ → ℕ → Type 0
EnablesWithin enables addr n = (j : ℕ) → j < 16 → bit_at enables j ≡ 1 → (lane_of addr ≤ j) × (j < lane_of addr + n)

-- `after` is `word` with the enabled bytes of `half`, the eight lanes of the packet from `first` on
pub record IsMaskedWrite (lanes : List ℕ) (enables first half mask word after : ℕ) : Type 0 where
  pub half_is : little_bytes 8 half ≡ slice_range lanes first (first + 8)
  pub mask_is : (k : ℕ) → k < 8 → slice_index (little_bytes 8 mask) k ≡ 255 * bit_at enables (first + k)
  pub kept : (k : ℕ) → k < 8 → slice_index (little_bytes 8 mask) k ≡ 0 → slice_index (little_bytes 8 after) k ≡ slice_index (little_bytes 8 word) k
  pub written : (k : ℕ) → k < 8 → slice_index (little_bytes 8 mask) k ≡ 255 → slice_index (little_bytes 8 after) k ≡ slice_index (little_bytes 8 half) k

-- a byte of the word that a masked write makes
enabled_byte : (m : Memory) → IsMemory m → (lanes : List ℕ) (enables addr n start first half mask word after : ℕ) →
    start ≡ addr / 8 * 8 → first ≡ lane_of start → EnablesWithin enables addr n → word ≡ word_at m start →
    IsMaskedWrite lanes enables first half mask word after →
    (k : ℕ) → k < 8 → slice_index (little_bytes 8 after) k ≡ with_enabled lanes enables m addr n (start + k)
enabled_byte m is lanes enables addr n start first half mask word after granule lane within at_start write k below =
    let bit : bit_at enables (first + k) < 2 = bit_at-lt enables (first + k) in
    let place : first + k ≡ lane_of (start + k) = omega arith in
    let mask_byte : slice_index (little_bytes 8 mask) k ≡ 255 * bit_at enables (first + k) = write.mask_is k below in
    elim (cases_lt (bit_at enables (first + k)) 1) [
      | inl zero_bit ↦
          let off : bit_at enables (first + k) ≡ 0 = omega arith in
          let none : slice_index (little_bytes 8 mask) k ≡ 0 = omega arith in
          let disabled : bit_at enables (lane_of (start + k)) ≡ 0 = rw (← place) off in
          write.kept k below none
          ∙ (rw (at_start, little_bytes-word_at m is start) (get_or-bytes_from m start 8 k below)
          ∙ sym (with_enabled-off lanes enables m addr n (start + k) disabled))
      | inr one_bit ↦
          let on : bit_at enables (first + k) ≡ 1 = omega arith in
          let all : slice_index (little_bytes 8 mask) k ≡ 255 = omega arith in
          let enabled : bit_at enables (lane_of (start + k)) ≡ 1 = rw (← place) on in
          let inside : (lane_of addr ≤ first + k) × (first + k < lane_of addr + n) = within (first + k) (omega arith) on in
          let above : addr ≤ start + k = omega arith in
          let under : start + k < addr + n = omega arith in
          write.written k below all
          ∙ (rw write.half_is (slice_index-slice_range lanes first 8 k below)
          ∙ (ap (slice_index lanes) place ∙ sym (with_enabled-on lanes enables m addr n (start + k) above under enabled)))
    ]

-- a masked write of the packet's half makes the word after the write of its enabled lanes
pub word_at-with_enabled : (m : Memory) → IsMemory m → (lanes : List ℕ) → AreBytes lanes →
    (enables addr n start first half mask word after : ℕ) →
    start ≡ addr / 8 * 8 → first ≡ lane_of start → EnablesWithin enables addr n → word ≡ word_at m start →
    IsMaskedWrite lanes enables first half mask word after → after < 2 ^ 64 →
    after ≡ word_at (with_enabled lanes enables m addr n) start
word_at-with_enabled m is lanes are enables addr n start first half mask word after granule lane within at_start write fits =
    let new : Memory = with_enabled lanes enables m addr n in
    let new_is : IsMemory new = IsMemory-with_enabled lanes enables m are is addr n in
    same_from_bytes 8 after (word_at new start) fits (word_at-below new new_is start)
    (ext_get_or 0 (little_bytes 8 after) (little_bytes 8 (word_at new start)) (length-little_bytes 8 after ∙ sym (length-little_bytes 8 (word_at new start)))
    (λ k inside.
    let below : k < 8 = rw (length-little_bytes 8 after) at inside in
    enabled_byte m is lanes enables addr n start first half mask word after granule lane within at_start write k below
    ∙ rw (little_bytes-word_at new new_is start) (sym (get_or-bytes_from new start 8 k below))))
