-- numbers and their digits to base 256: the bytes of a number, least significant first
use Rattle.std.proofs.Common.{◌≡◌, ℕ, zero, suc, ◌+◌, ◌*◌, ◌/◌, ◌%◌, ◌^◌, ◌<◌, List, [], ◌∷◌, ◌++◌, length, slice_index, refl, sym, ap, ◌∙◌, arith, pow_pos, pow-add, zero-add, div-one, pow-suc, suc-add}
use Rattle.std.proofs.Math.Nat.{pow-succ', pow-zero, div-div-eq-div-mul, mod-one, mod-add-div, add-mul-div_left, mod-eq_of_lt, div-eq_of_lt, mul_assoc}
use Rattle.std.proofs.Math.Arith.{mod-mul}
use Rattle.chi_lanes.specs.Bytes.{little, little_bytes}

-- a power of 256 as a power of 2
pub pow_bytes : (k : ℕ) → 256 ^ k ≡ 2 ^ (8 * k)
pow_bytes zero = refl
pow_bytes (suc k) = rw (pow-suc, pow_bytes k) (sym (let e : 8 * suc k ≡ 8 * k + 8 = omega arith in rw (e, pow-add) refl))

-- a power of 256 is not 0
pub pow_bytes_pos : (k : ℕ) → 0 < 256 ^ k
pow_bytes_pos k = rw (pow_bytes k) (pow_pos (8 * k))

-- how many bytes there are
pub length-little_bytes : (n x : ℕ) → length (little_bytes n x) ≡ n
unfolding little_bytes
length-little_bytes zero x = refl
length-little_bytes (suc n) x = ap suc (length-little_bytes n (x / 256))

-- to drop n + 1 digits is to drop one and then n
pub div_pow_suc : (n x : ℕ) → x / 256 ^ suc n ≡ x / 256 / 256 ^ n
div_pow_suc n x = rw pow-succ' (sym (div-div-eq-div-mul x 256 (256 ^ n)))

-- the bytes of a number are its low bytes and then its high ones
pub little_bytes-add : (m n x : ℕ) → little_bytes (m + n) x ≡ little_bytes m x ++ little_bytes n (x / 256 ^ m)
unfolding little_bytes
little_bytes-add zero n x = rw (zero-add, pow-zero, div-one) refl
little_bytes-add (suc m) n x = rw (suc-add, div_pow_suc) (ap (λ (bs : List ℕ). x % 256 ∷ bs) (little_bytes-add m n (x / 256)))

-- the number of a number's low bytes
pub little_little_bytes : (n x : ℕ) → little (little_bytes n x) ≡ x % 256 ^ n
unfolding little little_bytes
little_little_bytes zero x = rw pow-zero (sym (mod-one x))
little_little_bytes (suc n) x =
    let low : x % (256 ^ n * 256) ≡ (x / 256 % 256 ^ n) * 256 + x % 256 = mod-mul x (pow_bytes_pos n) (omega arith) in
    rw (pow-suc, low, little_little_bytes n (x / 256)) (omega arith)

-- the bytes of the number of some bytes are those bytes
pub little_bytes_little : (bs : List ℕ) → ((i : ℕ) → slice_index bs i < 256) → little_bytes (length bs) (little bs) ≡ bs
unfolding little little_bytes
little_bytes_little [] fits = refl
little_bytes_little (b ∷ bs) fits =
    let below : b < 256 = fits 0 in
    let low : (b + 256 * little bs) % 256 ≡ b = omega arith in
    let high : (b + 256 * little bs) / 256 ≡ little bs = omega arith in
    rw (low, high) (ap (λ (rest : List ℕ). b ∷ rest) (little_bytes_little bs (λ i. fits (suc i))))

-- the number of some bytes is below the power of their count
pub little-bound : (bs : List ℕ) → ((i : ℕ) → slice_index bs i < 256) → little bs < 256 ^ length bs
unfolding little
little-bound [] fits = rw pow-zero (omega arith)
little-bound (b ∷ bs) fits =
    let below : b < 256 = fits 0 in
    let rest : little bs < 256 ^ length bs = little-bound bs (λ i. fits (suc i)) in
    rw pow-suc (omega arith)

-- the low bytes know nothing of the high ones
pub little_bytes-high : (n x z : ℕ) → little_bytes n (x + 256 ^ n * z) ≡ little_bytes n x
unfolding little_bytes
little_bytes-high zero x z = refl
little_bytes-high (suc n) x z =
    let split : x + 256 ^ suc n * z ≡ x + 256 * (256 ^ n * z) = rw (pow-succ', mul_assoc) refl in
    let low : (x + 256 * (256 ^ n * z)) % 256 ≡ x % 256 = omega arith in
    let high : (x + 256 * (256 ^ n * z)) / 256 ≡ x / 256 + 256 ^ n * z = omega arith in
    rw (split, low, high) (ap (λ (rest : List ℕ). x % 256 ∷ rest) (little_bytes-high n (x / 256) z))

-- the low bytes are those of the remainder
pub little_bytes-mod : (n x : ℕ) → little_bytes n (x % 256 ^ n) ≡ little_bytes n x
little_bytes-mod n x = sym (little_bytes-high n (x % 256 ^ n) (x / 256 ^ n)) ∙ ap (little_bytes n) (mod-add-div x (256 ^ n))

-- numbers with the same bytes are equal
pub same_from_bytes : (n a b : ℕ) → a < 256 ^ n → b < 256 ^ n → little_bytes n a ≡ little_bytes n b → a ≡ b
same_from_bytes n a b below_a below_b same =
    sym (mod-eq_of_lt below_a) ∙ (sym (little_little_bytes n a) ∙ (ap little same ∙ (little_little_bytes n b ∙ mod-eq_of_lt below_b)))

-- a number put together from two runs of bytes
pub two_runs : (a c p q : ℕ) → p < 256 ^ a → little_bytes (a + c) (p + 256 ^ a * q) ≡ little_bytes a p ++ little_bytes c q
two_runs a c p q below =
    let high : (p + 256 ^ a * q) / 256 ^ a ≡ q = add-mul-div_left p q (pow_bytes_pos a) ∙ rw (div-eq_of_lt below) (zero-add q) in
    rw (little_bytes-add, little_bytes-high, high) refl

-- a number put together from three runs of bytes
pub three_runs : (a b c n p v q : ℕ) → n ≡ a + (b + c) → p < 256 ^ a → v < 256 ^ b →
    little_bytes n (p + 256 ^ a * (v + 256 ^ b * q)) ≡ little_bytes a p ++ (little_bytes b v ++ little_bytes c q)
three_runs a b c n p v q split below_p below_v =
    rw (split, two_runs a (b + c) p (v + 256 ^ b * q) below_p, two_runs b c v q below_v) refl
