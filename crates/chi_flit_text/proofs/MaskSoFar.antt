-- a mask of the first bits, bit by bit
use Rattle.std.proofs.Common.{◌≡◌, ℕ, ◌+◌, ◌*◌, ◌%◌, ◌^◌, ◌<◌, bit_or, arith, refl, add-one}
use Rattle.chi_lanes.specs.Combination.{from_bits}
use Rattle.std.proofs.Math.Nat.{pow-suc}
use Rattle.std.proofs.lemmas.Nat.{one_shl, or_comm, or_shifted}

-- the first i bits
pub record IsMask (f : ℕ → ℕ) (i n : ℕ) : Type 0 where
  pub is : n ≡ from_bits i f
  pub small : n < 2 ^ i

pub none_yet : (f : ℕ → ℕ) → IsMask f 0 0
unfolding from_bits
none_yet f = record { is = refl; small = omega arith }

wider : (i : ℕ) → 2 ^ (i + 1) ≡ 2 ^ i * 2
wider i = rw add-one (pow-suc 2 i)

next_bit : (f : ℕ → ℕ) (i : ℕ) → from_bits (i + 1) f ≡ f i * 2 ^ i + from_bits i f
unfolding from_bits
next_bit f i = rw add-one refl

-- a bit that is 0
pub left : (f : ℕ → ℕ) (i n : ℕ) → IsMask f i n → f i ≡ 0 → IsMask f (i + 1) n
left f i n mask zero =
    let was = mask.is in
    let below = mask.small in
    let more = next_bit f i in
    let none : f i * 2 ^ i ≡ 0 = rw zero (omega arith) in
    let double = wider i in
    record { is = omega arith; small = omega arith }

or_of : (i n : ℕ) → n < 2 ^ i → bit_or (2 ^ i) n ≡ 2 ^ i + n
or_of i n below = let same : 1 * 2 ^ i ≡ 2 ^ i = omega arith in rw same at (or_shifted 1 i n below)

-- a bit that is 1, of at most 16
pub put : (f : ℕ → ℕ) (i n m : ℕ) → IsMask f i n → f i ≡ 1 → i < 16 → m ≡ bit_or n (1 * 2 ^ i % 2 ^ 16) → IsMask f (i + 1) m
put f i n m mask one few is =
    let was = mask.is in
    let below = mask.small in
    let shifted : 1 * 2 ^ i % 2 ^ 16 ≡ 2 ^ i = one_shl i 16 few in
    let sum : bit_or n (1 * 2 ^ i % 2 ^ 16) ≡ 2 ^ i + n = rw (shifted, or_comm n (2 ^ i)) (or_of i n below) in
    let double = wider i in
    let more = next_bit f i in
    let added : f i * 2 ^ i ≡ 2 ^ i = rw one (omega arith) in
    record { is = omega arith; small = omega arith }
