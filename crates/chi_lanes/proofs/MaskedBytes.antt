-- bit operations on words, byte by byte
use Rattle.std.proofs.Common.{◌≡◌, ℕ, zero, suc, ◌-◌, ◌*◌, ◌/◌, ◌%◌, ◌^◌, ◌<◌, refl, sym, ap, ◌∙◌, bit_and, bit_or, slice_index, arith, pow-suc, div-one}
use Rattle.std.proofs.Math.Nat.{pow-zero, mod-eq_of_lt}
use Rattle.std.proofs.lemmas.Nat.{and_shr, or_shr, and_mod, or_mod, and_mask, and_le_r, or_comm}
use Rattle.chi_lanes.specs.Bytes.{little_bytes}
use Rattle.chi_lanes.proofs.ByteLists.{AreBytes-little_bytes}
use Rattle.chi_lanes.proofs.Digits.{pow_bytes, div_pow_suc}
use Rattle.chi_lanes.proofs.Masks.{or-zero}

-- one byte of a number
pub slice_index-little_bytes : (n x k : ℕ) → k < n → slice_index (little_bytes n x) k ≡ x / 256 ^ k % 256
unfolding little_bytes
slice_index-little_bytes zero x k below = absurd (omega arith)
slice_index-little_bytes (suc n) x zero below = rw (pow-zero, div-one) refl
slice_index-little_bytes (suc n) x (suc k) below =
    let rest : k < n = omega arith in
    slice_index-little_bytes n (x / 256) k rest ∙ ap (λ (y : ℕ). y % 256) (sym (div_pow_suc k x))

-- a byte of an and
slice_index-and : (a b k : ℕ) → k < 8 →
    slice_index (little_bytes 8 (bit_and a b)) k ≡ bit_and (slice_index (little_bytes 8 a) k) (slice_index (little_bytes 8 b) k)
slice_index-and a b k below =
    rw (slice_index-little_bytes 8 (bit_and a b) k below, slice_index-little_bytes 8 a k below, slice_index-little_bytes 8 b k below, pow_bytes k, and_shr)
    (and_mod (a / 2 ^ (8 * k)) (b / 2 ^ (8 * k)) 8)

-- a byte of an or
slice_index-or : (a b k : ℕ) → k < 8 →
    slice_index (little_bytes 8 (bit_or a b)) k ≡ bit_or (slice_index (little_bytes 8 a) k) (slice_index (little_bytes 8 b) k)
slice_index-or a b k below =
    rw (slice_index-little_bytes 8 (bit_or a b) k below, slice_index-little_bytes 8 a k below, slice_index-little_bytes 8 b k below, pow_bytes k, or_shr)
    (or_mod (a / 2 ^ (8 * k)) (b / 2 ^ (8 * k)) 8)

-- a byte of a complement
slice_index-not : (n x k : ℕ) → x < 256 ^ n → k < n →
    slice_index (little_bytes n (256 ^ n - 1 - x)) k ≡ 255 - slice_index (little_bytes n x) k
unfolding little_bytes
slice_index-not zero x k fits below = absurd (omega arith)
slice_index-not (suc n) x zero fits below =
    let inside : x < 256 ^ n * 256 = rw pow-suc at fits in
    rw pow-suc (omega arith)
slice_index-not (suc n) x (suc k) fits below =
    let inside : x < 256 ^ n * 256 = rw pow-suc at fits in
    let rest : k < n = omega arith in
    let fewer : x / 256 < 256 ^ n = omega arith in
    let high : (256 ^ n * 256 - 1 - x) / 256 ≡ 256 ^ n - 1 - x / 256 = omega arith in
    rw (pow-suc, high) (slice_index-not n (x / 256) k fewer rest)

-- a byte of a masked write, by the mask's byte
masked_byte : (word incoming mask k : ℕ) → mask < 2 ^ 64 → k < 8 →
    slice_index (little_bytes 8 (bit_or (bit_and word (2 ^ 64 - 1 - mask)) (bit_and incoming mask))) k
    ≡ bit_or (bit_and (slice_index (little_bytes 8 word) k) (255 - slice_index (little_bytes 8 mask) k))
    (bit_and (slice_index (little_bytes 8 incoming) k) (slice_index (little_bytes 8 mask) k))
masked_byte word incoming mask k below inside =
    rw (slice_index-or (bit_and word (2 ^ 64 - 1 - mask)) (bit_and incoming mask) k inside, slice_index-and word (2 ^ 64 - 1 - mask) k inside, slice_index-and incoming mask k inside, slice_index-not 8 mask k below inside)
    refl

-- an and with a byte 255
and_all : (b : ℕ) → b < 256 → bit_and b 255 ≡ b
and_all b below = and_mask b 8 ∙ mod-eq_of_lt below

-- an and with 0
and_none : (b : ℕ) → bit_and b 0 ≡ 0
and_none b = omega (arith, and_le_r b 0)

-- where the mask's byte is 0 the word keeps its byte
pub masked_kept : (word incoming mask k : ℕ) → mask < 2 ^ 64 → k < 8 → slice_index (little_bytes 8 mask) k ≡ 0 →
    slice_index (little_bytes 8 (bit_or (bit_and word (2 ^ 64 - 1 - mask)) (bit_and incoming mask))) k ≡ slice_index (little_bytes 8 word) k
masked_kept word incoming mask k below inside none =
    let old : slice_index (little_bytes 8 word) k < 256 = AreBytes-little_bytes 8 word k in
    masked_byte word incoming mask k below inside
    ∙ rw (none, and_all (slice_index (little_bytes 8 word) k) old, and_none (slice_index (little_bytes 8 incoming) k))
    (or-zero 8 (slice_index (little_bytes 8 word) k) old)

-- where the mask's byte is 255 the word takes the incoming byte
pub masked_written : (word incoming mask k : ℕ) → mask < 2 ^ 64 → k < 8 → slice_index (little_bytes 8 mask) k ≡ 255 →
    slice_index (little_bytes 8 (bit_or (bit_and word (2 ^ 64 - 1 - mask)) (bit_and incoming mask))) k ≡ slice_index (little_bytes 8 incoming) k
masked_written word incoming mask k below inside all =
    let new : slice_index (little_bytes 8 incoming) k < 256 = AreBytes-little_bytes 8 incoming k in
    masked_byte word incoming mask k below inside
    ∙ rw (all, and_all (slice_index (little_bytes 8 incoming) k) new, and_none (slice_index (little_bytes 8 word) k))
    (or_comm 0 (slice_index (little_bytes 8 incoming) k) ∙ or-zero 8 (slice_index (little_bytes 8 incoming) k) new)
