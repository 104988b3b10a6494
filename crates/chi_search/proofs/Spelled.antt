-- numbers and lists of bytes that are told by their bits
use Rattle.std.proofs.Common.{◌≡◌, ℕ, zero, suc, ◌+◌, ◌-◌, ◌*◌, ◌%◌, ◌^◌, ◌<◌, ◌≤◌, max, List, [], ◌∷◌, length, slice_index, refl, sym, ap, ◌∙◌, arith, inl, inr, pow-suc, mul-le-mul_right, le_of_suc-le-suc}
use Rattle.std.specs.Int.{bit_at}
use Rattle.std.proofs.lemmas.Bool.{cases_lt}
use Rattle.std.proofs.lemmas.Nat.Bits.{bit_at-lt, bit_at_cat_high, bit_at_cat_low}
use Rattle.chi_lanes.specs.Combination.{bitwise, from_bits}
use Rattle.chi_lanes.proofs.BitwiseLemmas.{cleared_bit}

-- the bits of a number that is told by its bits
pub spelled_below : (k : ℕ) (f : ℕ → ℕ) → ((j : ℕ) → f j < 2) → from_bits k f < 2 ^ k
unfolding from_bits
spelled_below zero f is = omega arith
spelled_below (suc k) f is =
    let here : f k * 2 ^ k ≤ 1 * 2 ^ k = mul-le-mul_right (2 ^ k) (le_of_suc-le-suc (is k)) in
    let below : from_bits k f < 2 ^ k = spelled_below k f is in
    rw (pow-suc 2 k) (omega (arith, here, below))

pub spelled_bit : (k : ℕ) (f : ℕ → ℕ) → ((j : ℕ) → f j < 2) → (j : ℕ) → j < k → bit_at (from_bits k f) j ≡ f j
unfolding from_bits
spelled_bit zero f is j below = absurd (omega (arith, below))
spelled_bit (suc k) f is j below = elim (cases_lt j k) [
  | inl low ↦ bit_at_cat_low (f k) k (from_bits k f) j low ∙ spelled_bit k f is j low
  | inr high ↦
      let same : j ≡ k = omega (arith, below, high) in
      let none : j - k ≡ 0 = omega (arith, same) in
      bit_at_cat_high (f k) k (from_bits k f) j (spelled_below k f is) high ∙ ap (bit_at (f k)) none ∙ lowest (f k) (is k) ∙ ap f (sym same)
]
  where
    lowest : (n : ℕ) → n < 2 → bit_at n 0 ≡ n
    lowest zero fits = refl
    lowest (suc zero) fits = refl
    lowest (suc (suc n)) fits = absurd (omega (arith, fits))

-- it makes a bit of each two bits
abbrev pub MakesBits : (ℕ → ℕ → ℕ) → Type 0
MakesBits f = (a b : ℕ) → a < 2 → b < 2 → f a b < 2

-- the three operations bit by bit do
pub MakesBits-clr : MakesBits (λ a b. a * (1 - b))
MakesBits-clr a b p q = rw (← cleared_bit a b p q) (omega (arith, p))

pub MakesBits-eor : MakesBits (λ a b. (a + b) % 2)
MakesBits-eor a b p q = omega arith

pub MakesBits-set : MakesBits (λ a b. max a b)
MakesBits-set a b p q = omega (arith, p, q)

-- a bit of a byte that an operation bit by bit makes
pub spelled_byte : (f : ℕ → ℕ → ℕ) → MakesBits f → (xs ys : List ℕ) (i j : ℕ) → i < length xs → i < length ys → j < 8
    → bit_at (slice_index (bitwise f xs ys) i) j ≡ f (bit_at (slice_index xs i) j) (bit_at (slice_index ys i) j)
unfolding bitwise
spelled_byte f is [] ys i j in_xs in_ys below = absurd (omega (arith, in_xs))
spelled_byte f is (x ∷ xs) [] i j in_xs in_ys below = absurd (omega (arith, in_ys))
spelled_byte f is (x ∷ xs) (y ∷ ys) zero j in_xs in_ys below =
    spelled_bit 8 (λ k. f (bit_at x k) (bit_at y k)) (λ k. is (bit_at x k) (bit_at y k) (bit_at-lt x k) (bit_at-lt y k)) j below
spelled_byte f is (x ∷ xs) (y ∷ ys) (suc i) j in_xs in_ys below =
    spelled_byte f is xs ys i j (omega (arith, in_xs)) (omega (arith, in_ys)) below
