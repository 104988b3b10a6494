-- the bits of a word in the bytes of a memory, and words that agree where a mask says
use Rattle.std.proofs.Common.{◌≡◌, ℕ, ◌+◌, ◌-◌, ◌*◌, ◌/◌, ◌%◌, ◌^◌, ◌<◌, ◌≤◌, min, ◌⊎◌, ◌↔◌, bit_and, bit_xor, refl, sym, ap, ◌∙◌, arith, inl, inr, List, slice_index, slice_range}
use Rattle.std.specs.Int.{bit_at}
use Rattle.std.proofs.lemmas.Bool.{cases_lt}
use Rattle.std.proofs.lemmas.Nat.{pow-add, pow_pos, shr_split}
use Rattle.std.proofs.lemmas.Nat.Bits.{bit_at-lt, bit_at-zero, bit_at_and, bit_at_cat_low, bit_at_mask_above, bit_at_mask_below, bit_at_mask_inside, bit_at_xor, same_from_bits}
use Rattle.chi_lanes.specs.Bytes.{little_bytes}
use Rattle.chi_lanes.specs.Memory.{Memory, IsMemory, word_at}
use Rattle.chi_lanes.proofs.Digits.{pow_bytes}
use Rattle.chi_lanes.proofs.MaskedBytes.{slice_index-little_bytes}
use Rattle.chi_lanes.proofs.MemoryLemmas.{get_or-bytes_from, little_bytes-word_at}
use Rattle.chi_lanes.proofs.Runs.{slice_index-slice_range}
use Rattle.chi_search.specs.Effects.{Agree}
use Rattle.chi_search.proofs.Bits.{shifted_down}

-- a bit of one byte of a number
byte_bit : (n i j : ℕ) → j < 8 → bit_at (n / 256 ^ i % 256) j ≡ bit_at n (8 * i + j)
byte_bit n i j below =
    sym (bit_at_cat_low (n / 256 ^ i / 256) 8 (n / 256 ^ i % 256) j below)
    ∙ ap (λ x. bit_at x j) (shr_split (n / 256 ^ i) 8)
    ∙ ap (λ d. bit_at (n / d) j) (pow_bytes i)
    ∙ shifted_down n (8 * i) j

-- a bit of the word of a memory's eight bytes
pub bit_of_word : (m : Memory) → IsMemory m → (start k : ℕ) → k < 64 → bit_at (word_at m start) k ≡ bit_at (m (start + k / 8)) (k % 8)
bit_of_word m is start k below =
    let inside : k / 8 < 8 = omega arith in
    let place : 8 * (k / 8) + k % 8 ≡ k = omega arith in
    let byte : word_at m start / 256 ^ (k / 8) % 256 ≡ m (start + k / 8) =
    sym (slice_index-little_bytes 8 (word_at m start) (k / 8) inside)
    ∙ ap (λ bs. slice_index bs (k / 8)) (little_bytes-word_at m is start)
    ∙ get_or-bytes_from m start 8 (k / 8) inside in
    ap (bit_at (word_at m start)) (sym place) ∙ sym (byte_bit (word_at m start) (k / 8) (k % 8) (omega arith)) ∙ ap (λ b. bit_at b (k % 8)) byte

-- a bit of a word that was read from eight lanes
pub bit_of_lanes : (lanes : List ℕ) (first n k : ℕ) → little_bytes 8 n ≡ slice_range lanes first (first + 8) → k < 64
    → bit_at n k ≡ bit_at (slice_index lanes (first + k / 8)) (k % 8)
bit_of_lanes lanes first n k bytes below =
    let inside : k / 8 < 8 = omega arith in
    let place : 8 * (k / 8) + k % 8 ≡ k = omega arith in
    let byte : n / 256 ^ (k / 8) % 256 ≡ slice_index lanes (first + k / 8) =
    sym (slice_index-little_bytes 8 n (k / 8) inside) ∙ ap (λ bs. slice_index bs (k / 8)) bytes ∙ slice_index-slice_range lanes first 8 (k / 8) inside in
    ap (bit_at n) (sym place) ∙ sym (byte_bit n (k / 8) (k % 8) (omega arith)) ∙ ap (λ b. bit_at b (k % 8)) byte

-- the bits of a run of bytes
pub mask_bit : (lane len k : ℕ) → (bit_at ((256 ^ len - 1) * 256 ^ lane) k ≡ 1) ↔ ((8 * lane ≤ k) × (k < 8 * (lane + len)))
mask_bit lane len k = (forth, λ within. ap (λ n. bit_at n k) number ∙ bit_at_mask_inside (8 * lane) (8 * (lane + len)) k within.0 within.1)
  where
    number : (256 ^ len - 1) * 256 ^ lane ≡ 2 ^ (8 * (lane + len)) - 2 ^ (8 * lane)
    number =
        let sum : 8 * (lane + len) ≡ 8 * len + 8 * lane = omega arith in
        let whole : 2 ^ (8 * (lane + len)) ≡ 256 ^ len * 256 ^ lane = ap (λ e. 2 ^ e) sum ∙ pow-add 2 (8 * len) (8 * lane) ∙ rw (pow_bytes len, pow_bytes lane) refl in
        let first : 256 ^ lane ≡ 2 ^ (8 * lane) = pow_bytes lane in
        let some : 0 < 256 ^ len = rw (pow_bytes len) (pow_pos (8 * len)) in
        let more : 256 ^ len ≡ (256 ^ len - 1) + 1 = omega (arith, some) in
        let product : 256 ^ len * 256 ^ lane ≡ ((256 ^ len - 1) + 1) * 256 ^ lane = ap (λ n. n * 256 ^ lane) more in
        omega (arith, whole, first, product)

    forth : bit_at ((256 ^ len - 1) * 256 ^ lane) k ≡ 1 → (8 * lane ≤ k) × (k < 8 * (lane + len))
    forth one = elim (cases_lt k (8 * lane)) [
      | inl below ↦ absurd (omega (arith, one, ap (λ n. bit_at n k) number, bit_at_mask_below (8 * lane) (8 * (lane + len)) k below))
      | inr above ↦ elim (cases_lt k (8 * (lane + len))) [
        | inl inside ↦ (above, inside)
        | inr past ↦ absurd (omega (arith, one, ap (λ n. bit_at n k) number, bit_at_mask_above (8 * lane) (8 * (lane + len)) k past))
      ]
    ]

-- a bit of an exclusive or, where a mask keeps it
xor_bit : (v w mask k : ℕ) → bit_at (bit_and (bit_xor v w) mask) k ≡ min ((bit_at v k + bit_at w k) % 2) (bit_at mask k)
xor_bit v w mask k = bit_at_and (bit_xor v w) mask k ∙ ap (λ b. min b (bit_at mask k)) (bit_at_xor v w k)

-- words agree where no bit of the mask differs
pub agree_from : (v w mask : ℕ) → bit_and (bit_xor v w) mask ≡ 0 → Agree mask v w
agree_from v w mask none k one =
    let bit : min ((bit_at v k + bit_at w k) % 2) (bit_at mask k) ≡ 0 = sym (xor_bit v w mask k) ∙ ap (λ n. bit_at n k) none ∙ bit_at-zero k in
    omega (arith, bit, one, bit_at-lt v k, bit_at-lt w k)

-- and the other way round
pub agree_to : (v w mask : ℕ) → Agree mask v w → bit_and (bit_xor v w) mask ≡ 0
agree_to v w mask agree = same_from_bits (bit_and (bit_xor v w) mask) 0 (λ k. xor_bit v w mask k ∙ by_bit k (cases_lt 0 (bit_at mask k)) ∙ sym (bit_at-zero k))
  where
    by_bit : (k : ℕ) → (0 < bit_at mask k) ⊎ (bit_at mask k ≤ 0) → min ((bit_at v k + bit_at w k) % 2) (bit_at mask k) ≡ 0
    by_bit k (inl one) =
        let is : bit_at mask k ≡ 1 = omega (arith, one, bit_at-lt mask k) in
        omega (arith, agree k is)
    by_bit k (inr zero) = omega (arith, zero)
