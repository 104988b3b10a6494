-- lemmas on what an atomic leaves in its operand, and on how it is computed
use Rattle.std.proofs.Common.{◌≡◌, ℕ, ◌+◌, ◌-◌, ◌*◌, ◌/◌, ◌%◌, ◌^◌, ◌<◌, ◌≤◌, Bool, true, false, max, List, length, reverse, slice_index, if◌then◌else◌, nat_lt, int_lt, bit_and, refl, ap, sym, ◌∙◌, arith, mod-eq_of_lt, mod-lt, pow_pos}
use Rattle.std.proofs.lemmas.Nat.{and_mask}
use Rattle.std.proofs.lemmas.Nat.Bits.{ones_shr}
use Rattle.std.proofs.Math.Pow.{mod-mod-pow}
use Rattle.chi_lanes.specs.Bytes.{little, number_in, signed_number_in, bytes, little_bytes}
use Rattle.chi_lanes.specs.Combination.{combine}
use Rattle.chi_fields.specs.declared.kind.Op.{Op}
use Rattle.chi_fields.specs.declared.kind.Op.TheVariants.{Add, Clr, Eor, Set, SMax, SMin, UMax, UMin}
use Rattle.chi_lanes.proofs.Digits.{length-little_bytes, little_little_bytes, little_bytes_little, pow_bytes}
use Rattle.chi_lanes.proofs.BitwiseLemmas.{cleared_bit, length-bitwise, AreBytes-bitwise}
use Rattle.chi_lanes.proofs.ReversedBytes.{length-bytes, little-reverse, AreBytes-little_bytes, AreBytes-bytes}

-- the bytes of what a number's bytes spell in an order are its bytes in that order
pub little_bytes-number_in : (endian : Bool) (len n : ℕ) → little_bytes len (number_in endian (little_bytes len n)) ≡ bytes endian len n
little_bytes-number_in true len n =
    let turned : List ℕ = reverse (little_bytes len n) in
    let long : length turned ≡ len = length-bytes true len n in
    let back : little_bytes (length turned) (little turned) ≡ turned = little_bytes_little turned (AreBytes-bytes true len n) in
    rw (long, little-reverse (little_bytes len n)) at back
little_bytes-number_in false len n =
    let bs : List ℕ = little_bytes len n in
    let back : little_bytes (length bs) (little bs) ≡ bs = little_bytes_little bs (AreBytes-little_bytes len n) in
    rw (length-little_bytes len n) at back

-- a number that fits is spelled by its bytes
pub number_in-little_bytes : (len n : ℕ) → n < 256 ^ len → n ≡ number_in false (little_bytes len n)
number_in-little_bytes len n fits = sym (little_little_bytes len n ∙ mod-eq_of_lt fits)

-- a word, masked to so many bytes, is cut to them
pub masked : (len n : ℕ) → len ≤ 8 → bit_and (n % 2 ^ 64) ((2 ^ 64 - 1) / 2 ^ (64 - 8 * len)) ≡ n % 256 ^ len
masked len n most =
    let rest : ℕ = 64 - 8 * len in
    let kept : 64 - rest ≡ 8 * len = omega arith in
    let all : 64 ≡ rest + 8 * len = omega arith in
    rw (ones_shr 64 rest (omega arith), kept, and_mask (n % 2 ^ 64) (8 * len), pow_bytes len)
    (ap (λ k. n % 2 ^ k % 2 ^ (8 * len)) all ∙ mod-mod-pow n rest (8 * len))

-- a number cut to so many bytes fits them
pub masked-below : (len n : ℕ) → n % 256 ^ len < 256 ^ len
masked-below len n = mod-lt n (rw (pow_bytes len) (pow_pos (8 * len)))

-- either of two lists of one length has that length
length-either : (test : Bool) (xs ys : List ℕ) → length xs ≡ length ys → length (if test then ys else xs) ≡ length xs
length-either true xs ys same = sym same
length-either false xs ys same = refl

-- each byte of either of two lists of bytes is a byte
AreBytes-either : (test : Bool) (xs ys : List ℕ) → ((i : ℕ) → slice_index xs i < 256) → ((i : ℕ) → slice_index ys i < 256) →
    (i : ℕ) → slice_index (if test then ys else xs) i < 256
AreBytes-either true xs ys old sent i = sent i
AreBytes-either false xs ys old sent i = old i

-- an operation leaves as many bytes as there were
pub length-combine : (op : Op) (endian : Bool) (xs ys : List ℕ) → length xs ≡ length ys → length (combine op endian xs ys) ≡ length xs
length-combine Add endian xs ys same = length-bytes endian (length xs) _
length-combine Clr endian xs ys same = length-bitwise (λ x y. x * (1 - y)) xs ys same
length-combine Eor endian xs ys same = length-bitwise (λ x y. (x + y) % 2) xs ys same
length-combine Set endian xs ys same = length-bitwise (λ x y. max x y) xs ys same
length-combine SMax endian xs ys same = length-either (int_lt (signed_number_in endian xs) (signed_number_in endian ys)) xs ys same
length-combine SMin endian xs ys same = length-either (int_lt (signed_number_in endian ys) (signed_number_in endian xs)) xs ys same
length-combine UMax endian xs ys same = length-either (nat_lt (number_in endian xs) (number_in endian ys)) xs ys same
length-combine UMin endian xs ys same = length-either (nat_lt (number_in endian ys) (number_in endian xs)) xs ys same

-- an operation leaves bytes
pub AreBytes-combine : (op : Op) (endian : Bool) (xs ys : List ℕ) → ((i : ℕ) → slice_index xs i < 256) → ((i : ℕ) → slice_index ys i < 256) →
    (i : ℕ) → slice_index (combine op endian xs ys) i < 256
AreBytes-combine Add endian xs ys old sent i = AreBytes-bytes endian (length xs) _ i
AreBytes-combine Clr endian xs ys old sent i = AreBytes-bitwise (λ x y. x * (1 - y)) (λ a b p q. rw (← cleared_bit a b p q) (omega arith)) xs ys i
AreBytes-combine Eor endian xs ys old sent i = AreBytes-bitwise (λ x y. (x + y) % 2) (λ a b p q. omega arith) xs ys i
AreBytes-combine Set endian xs ys old sent i = AreBytes-bitwise (λ x y. max x y) (λ a b p q. omega arith) xs ys i
AreBytes-combine SMax endian xs ys old sent i = AreBytes-either (int_lt (signed_number_in endian xs) (signed_number_in endian ys)) xs ys old sent i
AreBytes-combine SMin endian xs ys old sent i = AreBytes-either (int_lt (signed_number_in endian ys) (signed_number_in endian xs)) xs ys old sent i
AreBytes-combine UMax endian xs ys old sent i = AreBytes-either (nat_lt (number_in endian xs) (number_in endian ys)) xs ys old sent i
AreBytes-combine UMin endian xs ys old sent i = AreBytes-either (nat_lt (number_in endian ys) (number_in endian xs)) xs ys old sent i
