-- lemmas on two's complement: with its sign bit turned, a number stands in the unsigned order
use Rattle.std.proofs.Common.{◌≡◌, ℕ, ◌+◌, ◌-◌, ◌*◌, ◌%◌, ◌^◌, ◌<◌, ◌≤◌, true, false, pos, ◌-ℤ◌, nat_lt, int_lt, bit_xor, ap, ap₂, sym, ◌∙◌, arith, pow_pos, lt-ltb, le-ltb, inl, inr}
use Rattle.std.proofs.lemmas.Nat.{xor_block, pow-add, one_shl}
use Rattle.std.specs.Int.Bits.{xor_zero_r}
use Rattle.std.proofs.lemmas.Int.{ints}
use Rattle.std.proofs.lemmas.Bool.{cases_lt}
use Rattle.chi_lanes.specs.Bytes.{signed_number}
use Rattle.chi_lanes.proofs.Digits.{pow_bytes}

-- to turn a bit above a number sets it
xor_above : (k n : ℕ) → n < 2 ^ k → bit_xor n (2 ^ k) ≡ n + 2 ^ k
xor_above k n low =
    let left : n ≡ 0 * 2 ^ k + n = omega arith in
    let right : 2 ^ k ≡ 1 * 2 ^ k + 0 = omega arith in
    ap₂ bit_xor left right ∙ (xor_block k 0 1 n 0 low (pow_pos k) ∙ rw (xor_zero_r n) (omega arith))

-- to turn the highest bit of a number that has it clears it
xor_top : (k n : ℕ) → 2 ^ k ≤ n → n < 2 ^ k + 2 ^ k → bit_xor n (2 ^ k) ≡ n - 2 ^ k
xor_top k n has fits =
    let left : n ≡ 1 * 2 ^ k + (n - 2 ^ k) = omega arith in
    let right : 2 ^ k ≡ 1 * 2 ^ k + 0 = omega arith in
    let low : n - 2 ^ k < 2 ^ k = omega arith in
    ap₂ bit_xor left right ∙ (xor_block k 1 1 (n - 2 ^ k) 0 low (pow_pos k) ∙ rw (xor_zero_r (n - 2 ^ k)) (omega arith))

-- two's complement is the number with its sign bit turned, less that bit's worth
signed_is : (k len n : ℕ) → 256 ^ len ≡ 2 ^ k + 2 ^ k → n < 256 ^ len →
    signed_number len n ≡ pos (bit_xor n (2 ^ k)) -ℤ pos (2 ^ k)
signed_is k len n whole fits =
    elim (cases_lt n (2 ^ k)) [
      | inl low ↦
          let test : nat_lt (2 * n) (256 ^ len) ≡ true = lt-ltb (2 * n) (256 ^ len) (omega arith) in
          let set : bit_xor n (2 ^ k) ≡ n + 2 ^ k = xor_above k n low in
          rw (test, set) (omega (arith, ints))
      | inr high ↦
          let test : nat_lt (2 * n) (256 ^ len) ≡ false = le-ltb (2 * n) (256 ^ len) (omega arith) in
          let within : n < 2 ^ k + 2 ^ k = omega arith in
          let cleared : bit_xor n (2 ^ k) ≡ n - 2 ^ k = xor_top k n high within in
          rw (test, cleared) (omega (arith, ints))
    ]

-- to take one number from both sides keeps the order
less_by_same : (x y z : ℕ) → int_lt (pos x -ℤ pos z) (pos y -ℤ pos z) ≡ nat_lt x y
less_by_same x y z =
    elim (cases_lt x y) [
      | inl below ↦ rw (lt-ltb x y below) (grind (arith, ints))
      | inr above ↦ rw (le-ltb x y above) (grind (arith, ints))
    ]

-- the sign bit of an operand, as it is computed
pub sign_is : (len : ℕ) → 1 ≤ len → len ≤ 8 → (1 * 2 ^ (8 * len - 1)) % 2 ^ 64 ≡ 2 ^ (8 * len - 1)
sign_is len some most = one_shl (8 * len - 1) 64 (omega arith)

-- the signed order is the unsigned one of the numbers with their sign bits turned
pub signed_order : (len x y : ℕ) → 1 ≤ len → x < 256 ^ len → y < 256 ^ len →
    nat_lt (bit_xor x (2 ^ (8 * len - 1))) (bit_xor y (2 ^ (8 * len - 1))) ≡ int_lt (signed_number len x) (signed_number len y)
signed_order len x y some x_fits y_fits =
    let sign : ℕ = 8 * len - 1 in
    let bits : 8 * len ≡ 1 + sign = omega arith in
    let whole : 256 ^ len ≡ 2 ^ sign + 2 ^ sign =
    pow_bytes len ∙ (ap (λ k. 2 ^ k) bits ∙ (pow-add 2 1 sign ∙ omega arith)) in
    rw (signed_is sign len x whole x_fits, signed_is sign len y whole y_fits)
    (sym (less_by_same (bit_xor x (2 ^ sign)) (bit_xor y (2 ^ sign)) (2 ^ sign)))
