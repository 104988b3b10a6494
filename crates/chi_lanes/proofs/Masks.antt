-- what shifts and masks make of a word, in numbers
use Rattle.std.proofs.Common.{◌≡◌, ℕ, zero, suc, ◌+◌, ◌-◌, ◌*◌, ◌/◌, ◌%◌, ◌^◌, ◌<◌, ◌≤◌, List, ◌∷◌, ◌++◌, length, take, drop, replicate, slice_range, bit_and, bit_or, refl, sym, ap, ◌∙◌, arith, pow_pos, pow_mono, pow-suc}
use Rattle.std.proofs.Math.Nat.{mod-lt}
use Rattle.std.proofs.Math.Pow.{high_ones}
use Rattle.std.proofs.lemmas.Nat.{shl_whole, and-not, and_comm, or_comm, or_block, or_shifted, shr_split, and_mask}
use Rattle.std.proofs.lemmas.Nat.Bits.{ones_shr, and_high}
use Rattle.chi_lanes.specs.Bytes.{little, little_bytes}
use Rattle.chi_lanes.proofs.Digits.{pow_bytes, pow_bytes_pos, little_bytes-add, length-little_bytes, little_little_bytes, little_bytes-mod, three_runs}
use Rattle.chi_lanes.proofs.Runs.{first_run, middle_run, last_run}

-- the lowest bytes' ones, as a shift makes them
pub low_ones : (len : ℕ) → len ≤ 8 → (2 ^ 64 - 1) / 2 ^ (64 - 8 * len) ≡ 256 ^ len - 1
low_ones len within =
    let shift : 64 - 8 * len ≤ 64 = omega arith in
    let left : 64 - (64 - 8 * len) ≡ 8 * len = omega arith in
    ones_shr 64 (64 - 8 * len) shift ∙ (rw (left, pow_bytes len) refl)

-- the number of a run of bytes 255
pub mask_number : (lane len : ℕ) → lane + len ≤ 8 →
    (2 ^ 64 - 1) / 2 ^ (64 - 8 * len) * 2 ^ (8 * lane) % 2 ^ 64 ≡ (256 ^ len - 1) * 256 ^ lane
mask_number lane len room =
    let within : len ≤ 8 = omega arith in
    let width : 8 * len + 8 * lane ≤ 64 = omega arith in
    let below : 2 ^ (8 * len) - 1 < 2 ^ (8 * len) = omega (arith, pow_pos (8 * len)) in
    rw (low_ones len within, pow_bytes len, pow_bytes lane) (shl_whole (2 ^ (8 * len) - 1) (8 * len) (8 * lane) 64 below width)

-- the bytes of 0
pub little_bytes-zero : (n : ℕ) → little_bytes n 0 ≡ replicate n 0
unfolding little_bytes
little_bytes-zero zero = refl
little_bytes-zero (suc n) = ap (λ (rest : List ℕ). 0 ∷ rest) (little_bytes-zero n)

-- the bytes of the greatest number of so many bytes
pub little_bytes-ones : (n : ℕ) → little_bytes n (256 ^ n - 1) ≡ replicate n 255
unfolding little_bytes
little_bytes-ones zero = refl
little_bytes-ones (suc n) =
    let some : 0 < 256 ^ n = pow_bytes_pos n in
    let low : (256 ^ n * 256 - 1) % 256 ≡ 255 = omega arith in
    let high : (256 ^ n * 256 - 1) / 256 ≡ 256 ^ n - 1 = omega arith in
    rw (pow-suc, low, high) (ap (λ (rest : List ℕ). 255 ∷ rest) (little_bytes-ones n))

-- the bytes of a mask
pub mask_lanes : (lane len : ℕ) → lane + len ≤ 8 →
    little_bytes 8 ((256 ^ len - 1) * 256 ^ lane) ≡ replicate lane 0 ++ (replicate len 255 ++ replicate (8 - lane - len) 0)
mask_lanes lane len room =
    let split : 8 ≡ lane + (len + (8 - lane - len)) = omega arith in
    let below : 256 ^ len - 1 < 256 ^ len = omega (arith, pow_bytes_pos len) in
    let number : (256 ^ len - 1) * 256 ^ lane ≡ 0 + 256 ^ lane * (256 ^ len - 1 + 256 ^ len * 0) = omega arith in
    rw (number, three_runs lane len (8 - lane - len) 8 0 (256 ^ len - 1) 0 split (pow_bytes_pos lane) below, little_bytes-zero lane, little_bytes-ones len, little_bytes-zero (8 - lane - len)) refl

-- what a mask of j bits from bit k on keeps of a number
kept_bits : (w n j k : ℕ) → n < 2 ^ w → j + k ≤ w →
    bit_and n (2 ^ w - 1 - (2 ^ j - 1) * 2 ^ k) ≡ n / 2 ^ k / 2 ^ j * 2 ^ j * 2 ^ k + n % 2 ^ k
kept_bits w n j k below room =
    let top : 2 ^ (j + k) ≤ 2 ^ w = pow_mono room in
    let mask_below : (2 ^ j - 1) * 2 ^ k < 2 ^ w = rw (← high_ones j k) (omega (arith, pow_pos k, pow_pos w)) in
    let gone : bit_and ((2 ^ j - 1) * 2 ^ k) n ≡ (n / 2 ^ k % 2 ^ j) * 2 ^ k =
    rw (and_comm, ← high_ones j k) (and_high n j k) in
    let parts : bit_and (2 ^ w - 1 - (2 ^ j - 1) * 2 ^ k) n + (n / 2 ^ k % 2 ^ j) * 2 ^ k ≡ n =
    rw (← gone) (and-not w ((2 ^ j - 1) * 2 ^ k) n mask_below below) in
    let high : (n / 2 ^ k / 2 ^ j * 2 ^ j + n / 2 ^ k % 2 ^ j) * 2 ^ k ≡ n / 2 ^ k * 2 ^ k =
    ap (λ (a : ℕ). a * 2 ^ k) (shr_split (n / 2 ^ k) j) in
    and_comm n (2 ^ w - 1 - (2 ^ j - 1) * 2 ^ k) ∙ omega (arith, parts, high, shr_split n k)

-- an or with 0
pub or-zero : (k r : ℕ) → r < 2 ^ k → bit_or r 0 ≡ r
or-zero k r below =
    let none : 0 * 2 ^ k ≡ 0 = omega arith in
    or_comm r 0 ∙ (ap (λ (z : ℕ). bit_or z r) (sym none) ∙ (or_shifted 0 k r below ∙ omega arith))

-- what an insertion of j bits at bit k makes of a number
insert_bits : (w n j k v : ℕ) → n < 2 ^ w → j + k ≤ w → v < 2 ^ j →
    bit_or (bit_and n (2 ^ w - 1 - (2 ^ j - 1) * 2 ^ k)) (v * 2 ^ k) ≡ n % 2 ^ k + 2 ^ k * (v + 2 ^ j * (n / 2 ^ k / 2 ^ j))
insert_bits w n j k v below room fits =
    let rest : v * 2 ^ k ≡ v * 2 ^ k + 0 = omega arith in
    let alone : bit_or (n % 2 ^ k) 0 ≡ n % 2 ^ k = or-zero k (n % 2 ^ k) (mod-lt n (pow_pos k)) in
    rw (kept_bits w n j k below room, rest, or_block k (n / 2 ^ k / 2 ^ j * 2 ^ j) v (n % 2 ^ k) 0 (mod-lt n (pow_pos k)) (pow_pos k), or_shifted (n / 2 ^ k / 2 ^ j) j v fits, alone) (omega arith)

-- the word that an insertion of len bytes makes
pub insert_number : (word lane len value : ℕ) → word < 2 ^ 64 → lane + len ≤ 8 → value < 256 ^ len →
    bit_or (bit_and word (2 ^ 64 - 1 - (256 ^ len - 1) * 256 ^ lane)) (value * 2 ^ (8 * lane) % 2 ^ 64)
    ≡ word % 256 ^ lane + 256 ^ lane * (value + 256 ^ len * (word / 256 ^ lane / 256 ^ len))
insert_number word lane len value below room fits =
    let width : 8 * len + 8 * lane ≤ 64 = omega arith in
    let small : value < 2 ^ (8 * len) = rw (← pow_bytes len) fits in
    rw (shl_whole value (8 * len) (8 * lane) 64 small width, pow_bytes len, pow_bytes lane) (insert_bits 64 word (8 * len) (8 * lane) value below width small)

-- the three runs of a word's bytes round an operand of len bytes
pub runs_of : (word lane len : ℕ) → lane + len ≤ 8 →
    little_bytes 8 word
    ≡ little_bytes lane word ++ (little_bytes len (word / 256 ^ lane) ++ little_bytes (8 - lane - len) (word / 256 ^ lane / 256 ^ len))
runs_of word lane len room =
    let split : 8 ≡ lane + (len + (8 - lane - len)) = omega arith in
    ap (λ (n : ℕ). little_bytes n word) split ∙ rw (little_bytes-add lane, little_bytes-add len) refl

-- the bytes of a word into which an operand was put
pub insert_lanes : (word lane len value : ℕ) → lane + len ≤ 8 → value < 256 ^ len →
    little_bytes 8 (word % 256 ^ lane + 256 ^ lane * (value + 256 ^ len * (word / 256 ^ lane / 256 ^ len)))
    ≡ take lane (little_bytes 8 word) ++ (little_bytes len value ++ drop (lane + len) (little_bytes 8 word))
insert_lanes word lane len value room fits =
    let split : 8 ≡ lane + (len + (8 - lane - len)) = omega arith in
    let low : word % 256 ^ lane < 256 ^ lane = mod-lt word (pow_bytes_pos lane) in
    let before : List ℕ = little_bytes lane word in
    let old : List ℕ = little_bytes len (word / 256 ^ lane) in
    let after : List ℕ = little_bytes (8 - lane - len) (word / 256 ^ lane / 256 ^ len) in
    let count : length before ≡ lane = length-little_bytes lane word in
    let count_old : length old ≡ len = length-little_bytes len (word / 256 ^ lane) in
    rw (three_runs lane len (8 - lane - len) 8 (word % 256 ^ lane) value (word / 256 ^ lane / 256 ^ len) split low fits, little_bytes-mod lane word, runs_of word lane len room, first_run before old after lane count, last_run before old after lane len count count_old) refl

-- the operand that a shift and a mask read
pub extract_number : (word lane len : ℕ) → len ≤ 8 →
    bit_and (word / 2 ^ (8 * lane)) ((2 ^ 64 - 1) / 2 ^ (64 - 8 * len)) ≡ word / 256 ^ lane % 256 ^ len
extract_number word lane len within =
    rw (low_ones len within, pow_bytes len, pow_bytes lane) (and_mask (word / 2 ^ (8 * lane)) (8 * len))

-- that operand is the number of the word's bytes in its lanes
pub extract_lanes : (word lane len : ℕ) → lane + len ≤ 8 →
    word / 256 ^ lane % 256 ^ len ≡ little (slice_range (little_bytes 8 word) lane (lane + len))
extract_lanes word lane len room =
    let before : List ℕ = little_bytes lane word in
    let held : List ℕ = little_bytes len (word / 256 ^ lane) in
    let after : List ℕ = little_bytes (8 - lane - len) (word / 256 ^ lane / 256 ^ len) in
    let count : length before ≡ lane = length-little_bytes lane word in
    let count_held : length held ≡ len = length-little_bytes len (word / 256 ^ lane) in
    rw (runs_of word lane len room, middle_run before held after lane len count count_held) (sym (little_little_bytes len (word / 256 ^ lane)))
