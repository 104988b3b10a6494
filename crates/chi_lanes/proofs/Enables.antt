-- the mask of eight enable bits: a byte 255 for each bit that is 1
use Rattle.std.proofs.Common.{◌≡◌, ℕ, zero, suc, ◌+◌, ◌*◌, ◌/◌, ◌%◌, ◌^◌, ◌<◌, ◌&&◌, Bool, true, nat_eq, refl, sym, ap, ◌∙◌, bit_and, slice_index, arith, inl, inr, eqb-true}
use Rattle.std.proofs.lemmas.Bool.{and_parts, cases_lt}
use Rattle.std.proofs.lemmas.Nat.{shr-shr, shr_split, and_mask}
use Rattle.std.proofs.lemmas.Nat.Bits.{bit_at-lt, bit_at_cat_low}
use Rattle.std.specs.Int.{bit_at}
use Rattle.chi_lanes.specs.Bytes.{little, little_bytes}
use Rattle.chi_lanes.specs.Memory.{Memory, IsMemory, bytes_from, word_at}
use Rattle.chi_lanes.proofs.MemoryLemmas.{get_or-bytes_from, little_bytes-word_at}

-- the mask as a few word operations make it: copy the byte, keep bit k of copy k, and spread it over its byte
abbrev pub spread : ℕ → ℕ
spread enables =
    bit_and ((bit_and (enables * 0x0101010101010101) 0x8040201008040201 + 0x7f7f7f7f7f7f7f7f) / 2 ^ 7) 0x0101010101010101 * 255

-- the mask's bytes, as a memory
byte_of : ℕ → Memory
byte_of enables k = 255 * bit_at enables k

-- whether the word operations give those bytes
is_spread : ℕ → Bool
is_spread enables = nat_eq (spread enables) (word_at (byte_of enables) 0)

-- whether a test passes at each number below a bound
passes_below : ℕ → (ℕ → Bool) → Bool
passes_below zero p = true
passes_below (suc n) p = p n && passes_below n p

-- a test that passes below a bound passes at each number there
passes_at : (n : ℕ) (p : ℕ → Bool) → passes_below n p ≡ true → (k : ℕ) → k < n → p k ≡ true
unfolding passes_below
passes_at zero p all k below = absurd (omega arith)
passes_at (suc n) p all k below = elim (cases_lt k n) [
  | inl lower ↦ passes_at n p (and_parts (p n) (passes_below n p) all).1 k lower
  | inr last ↦ let same : k ≡ n = omega arith in rw same (and_parts (p n) (passes_below n p) all).0
]

-- the word operations give those bytes at each of the 256 values
all_spread : passes_below 256 is_spread ≡ true
unfolding passes_below is_spread byte_of word_at bytes_from little
all_spread = refl

-- the mask's bytes are bytes
byte_of-below : (enables : ℕ) → IsMemory (byte_of enables)
unfolding byte_of
byte_of-below enables k = let bit : bit_at enables k < 2 = bit_at-lt enables k in omega arith

-- a byte of the mask
pub slice_index-spread : (enables k : ℕ) → enables < 256 → k < 8 → slice_index (little_bytes 8 (spread enables)) k ≡ 255 * bit_at enables k
unfolding is_spread byte_of
slice_index-spread enables k below inside =
    let number : spread enables ≡ word_at (byte_of enables) 0 =
    eqb-true (spread enables) (word_at (byte_of enables) 0) (passes_at 256 is_spread all_spread enables below) in
    ap (λ (n : ℕ). slice_index (little_bytes 8 n) k) number
    ∙ (ap (λ bs. slice_index bs k) (little_bytes-word_at (byte_of enables) (byte_of-below enables) 0)
    ∙ (get_or-bytes_from (byte_of enables) 0 8 k inside ∙ (let at : 0 + k ≡ k = omega arith in ap (byte_of enables) at)))

-- the enable bits of one half of the packet
pub bit_at-half : (enables first k : ℕ) → k < 8 → bit_at (bit_and (enables / 2 ^ first) 255) k ≡ bit_at enables (first + k)
bit_at-half enables first k inside =
    let low : bit_and (enables / 2 ^ first) 255 ≡ enables / 2 ^ first % 2 ^ 8 = and_mask (enables / 2 ^ first) 8 in
    rw low (sym (bit_at_cat_low (enables / 2 ^ first / 2 ^ 8) 8 (enables / 2 ^ first % 2 ^ 8) k inside)
    ∙ (ap (λ (n : ℕ). bit_at n k) (shr_split (enables / 2 ^ first) 8) ∙ ap (λ (n : ℕ). n % 2) (shr-shr enables first k)))
