-- lemmas on operations bit by bit: the bits of a number decide its bytes
use Rattle.std.proofs.Common.{◌≡◌, ℕ, zero, suc, ◌+◌, ◌-◌, ◌*◌, ◌/◌, ◌%◌, ◌^◌, ◌<◌, ◌≤◌, min, max, List, [], ◌∷◌, bit_and, bit_or, bit_xor, slice_index, length, refl, ap, sym, ◌∙◌, arith, w64, mul-le-mul_right, le_of_suc-le-suc, pow-suc}
use Rattle.std.specs.Int.{bit_at, bit_not}
use Rattle.std.proofs.lemmas.Nat.{mod-pow-add, shr_split, shr-shr}
use Rattle.std.proofs.lemmas.Nat.Bits.{bit_at_cat_low, bit_at_and, bit_at_or, bit_at_xor, bit_at_not, bit_at-lt}
use Rattle.chi_lanes.specs.Bytes.{little_bytes}
use Rattle.chi_lanes.specs.Combination.{from_bits, bitwise}

-- the low bits of a number spell it, cut to so many bits
from_bits_is : (k n : ℕ) → from_bits k (λ j. bit_at n j) ≡ n % 2 ^ k
unfolding from_bits
from_bits_is zero n = omega arith
from_bits_is (suc k) n =
    let more : suc k ≡ 1 + k = omega arith in
    rw (from_bits_is k n, more, mod-pow-add n 1 k) refl

-- the same bits spell the same number
from_bits-same : (k : ℕ) (f g : ℕ → ℕ) → ((j : ℕ) → j < k → f j ≡ g j) → from_bits k f ≡ from_bits k g
unfolding from_bits
from_bits-same zero f g same = refl
from_bits-same (suc k) f g same =
    let here : f k ≡ g k = same k (omega arith) in
    let below : from_bits k f ≡ from_bits k g = from_bits-same k f g (λ j l. same j (omega arith)) in
    rw (here, below) refl

-- the lowest byte of a number has its low bits
bit_at-low : (n j : ℕ) → j < 8 → bit_at (n % 256) j ≡ bit_at n j
bit_at-low n j l =
    sym (bit_at_cat_low (n / 256) 8 (n % 256) j l) ∙ ap (λ k. bit_at k j) (shr_split n 8)

-- the bits above the lowest byte
bit_at-high : (n j : ℕ) → bit_at (n / 256) j ≡ bit_at n (8 + j)
bit_at-high n j = ap (λ k. k % 2) (shr-shr n 8 j)

-- the lowest byte of a number, where an operation on the bits of two others gives its low bits
lowest_byte : (f : ℕ → ℕ → ℕ) (x y n : ℕ) → ((j : ℕ) → j < 8 → bit_at n j ≡ f (bit_at x j) (bit_at y j)) →
    n % 256 ≡ from_bits 8 (λ j. f (bit_at (x % 256) j) (bit_at (y % 256) j))
lowest_byte f x y n is =
    let each : (j : ℕ) → j < 8 → bit_at n j ≡ f (bit_at (x % 256) j) (bit_at (y % 256) j) =
    λ j l. rw (bit_at-low x j l, bit_at-low y j l) (is j l) in
    sym (from_bits_is 8 n) ∙ from_bits-same 8 (λ j. bit_at n j) (λ j. f (bit_at (x % 256) j) (bit_at (y % 256) j)) each

-- the bytes of a number, where an operation on the bits of two others gives its bits
pub bitwise_is : (f : ℕ → ℕ → ℕ) (len x y n : ℕ) → ((j : ℕ) → j < 8 * len → bit_at n j ≡ f (bit_at x j) (bit_at y j)) →
    little_bytes len n ≡ bitwise f (little_bytes len x) (little_bytes len y)
unfolding little_bytes bitwise
bitwise_is f zero x y n is = refl
bitwise_is f (suc len) x y n is =
    let above : (j : ℕ) → j < 8 * len → bit_at (n / 256) j ≡ f (bit_at (x / 256) j) (bit_at (y / 256) j) =
    λ j l. rw (bit_at-high n j, bit_at-high x j, bit_at-high y j) (is (8 + j) (omega arith)) in
    let low : n % 256 ≡ from_bits 8 (λ j. f (bit_at (x % 256) j) (bit_at (y % 256) j)) =
    lowest_byte f x y n (λ j l. is j (omega arith)) in
    rw (low, bitwise_is f len (x / 256) (y / 256) (n / 256) above) refl

-- the bytes of an exclusive or
pub bytes_of_xor : (len x y : ℕ) → little_bytes len (bit_xor x y) ≡ bitwise (λ a b. (a + b) % 2) (little_bytes len x) (little_bytes len y)
bytes_of_xor len x y = bitwise_is (λ a b. (a + b) % 2) len x y (bit_xor x y) (λ j l. bit_at_xor x y j)

-- the bytes of an or
pub bytes_of_or : (len x y : ℕ) → little_bytes len (bit_or x y) ≡ bitwise (λ a b. max a b) (little_bytes len x) (little_bytes len y)
bytes_of_or len x y = bitwise_is (λ a b. max a b) len x y (bit_or x y) (λ j l. bit_at_or x y j)

-- one bit, cleared by another
pub cleared_bit : (a b : ℕ) → a < 2 → b < 2 → min a (1 - b) ≡ a * (1 - b)
cleared_bit zero b p q = omega arith
cleared_bit (suc zero) b p q = omega arith
cleared_bit (suc (suc a)) b p q = absurd (omega arith)

-- the bytes of a number whose bits are cleared by another's
pub bytes_of_cleared : (len x y : ℕ) → len ≤ 8 → y < 2 ^ 64 →
    little_bytes len (bit_and x (bit_not w64 y)) ≡ bitwise (λ a b. a * (1 - b)) (little_bytes len x) (little_bytes len y)
bytes_of_cleared len x y most fits =
    let each : (j : ℕ) → j < 8 * len → bit_at (bit_and x (bit_not w64 y)) j ≡ bit_at x j * (1 - bit_at y j) =
    λ j l.
    let place : j < 64 = omega arith in
    rw (bit_at_and x (bit_not w64 y) j, bit_at_not w64 y j fits place)
    (cleared_bit (bit_at x j) (bit_at y j) (bit_at-lt x j) (bit_at-lt y j)) in
    bitwise_is (λ a b. a * (1 - b)) len x y (bit_and x (bit_not w64 y)) each

-- a bit of each place spells a number below that power of 2
from_bits-below : (k : ℕ) (f : ℕ → ℕ) → ((j : ℕ) → f j < 2) → from_bits k f < 2 ^ k
unfolding from_bits
from_bits-below zero f is = omega arith
from_bits-below (suc k) f is =
    let here : f k * 2 ^ k ≤ 1 * 2 ^ k = mul-le-mul_right (2 ^ k) (le_of_suc-le-suc (is k)) in
    let below : from_bits k f < 2 ^ k = from_bits-below k f is in
    rw (pow-suc 2 k) (omega arith)

-- an operation bit by bit makes a byte of each two bytes
pub AreBytes-bitwise : (f : ℕ → ℕ → ℕ) → ((a b : ℕ) → a < 2 → b < 2 → f a b < 2) → (xs ys : List ℕ) (i : ℕ) → slice_index (bitwise f xs ys) i < 256
unfolding bitwise
AreBytes-bitwise f is [] ys i = omega arith
AreBytes-bitwise f is (x ∷ xs) [] i = omega arith
AreBytes-bitwise f is (x ∷ xs) (y ∷ ys) zero =
    from_bits-below 8 (λ j. f (bit_at x j) (bit_at y j)) (λ j. is (bit_at x j) (bit_at y j) (bit_at-lt x j) (bit_at-lt y j))
AreBytes-bitwise f is (x ∷ xs) (y ∷ ys) (suc i) = AreBytes-bitwise f is xs ys i

-- an operation bit by bit makes as many bytes as it is given of each
pub length-bitwise : (f : ℕ → ℕ → ℕ) (xs ys : List ℕ) → length xs ≡ length ys → length (bitwise f xs ys) ≡ length xs
unfolding bitwise
length-bitwise f [] ys same = refl
length-bitwise f (x ∷ xs) [] same = cc
length-bitwise f (x ∷ xs) (y ∷ ys) same = ap suc (length-bitwise f xs ys (cc))
