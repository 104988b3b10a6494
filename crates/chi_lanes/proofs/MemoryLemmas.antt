-- the bytes and words of a memory, before and after a write
use Rattle.std.proofs.Common.{◌≡◌, ℕ, zero, suc, ◌+◌, ◌-◌, ◌^◌, ◌<◌, ◌≤◌, ◌⊎◌, inl, inr, List, ◌++◌, length, get_or, take, drop, slice_index, slice_range, refl, sym, ap, ◌∙◌, arith, ext_get_or, zero-add, add-zero, suc-add, subst}
use Rattle.std.proofs.lemmas.Bool.Decides.{nat_tests}
use Rattle.std.proofs.lemmas.Bool.{cases_lt}
use Rattle.chi_lanes.specs.Bytes.{little, little_bytes, AreBytes}
use Rattle.chi_fields.specs.Access.{lane_of}
use Rattle.std.specs.Int.{bit_at}
use Rattle.chi_lanes.specs.Memory.{Memory, IsMemory, bytes_from, with_bytes, word_at, with_enabled}
use Rattle.chi_lanes.proofs.Digits.{little_bytes_little, little-bound, same_from_bytes, length-little_bytes}
use Rattle.chi_lanes.proofs.ByteLists.{AreBytes-little_bytes}
use Rattle.chi_lanes.proofs.Runs.{first_run, middle_run, last_run}

-- how many bytes there are
pub length-bytes_from : (m : Memory) (addr n : ℕ) → length (bytes_from m addr n) ≡ n
unfolding bytes_from
length-bytes_from m addr zero = refl
length-bytes_from m addr (suc n) = ap suc (length-bytes_from m (addr + 1) n)

-- a memory's bytes are bytes
pub AreBytes-bytes_from : (m : Memory) → IsMemory m → (addr n : ℕ) → AreBytes (bytes_from m addr n)
unfolding bytes_from
AreBytes-bytes_from m is addr zero i = omega arith
AreBytes-bytes_from m is addr (suc n) zero = is addr
AreBytes-bytes_from m is addr (suc n) (suc i) = AreBytes-bytes_from m is (addr + 1) n i

-- one of the bytes from an address on
pub get_or-bytes_from : (m : Memory) (addr n i : ℕ) → i < n → get_or (bytes_from m addr n) i 0 ≡ m (addr + i)
unfolding bytes_from
get_or-bytes_from m addr zero i below = absurd (omega arith)
get_or-bytes_from m addr (suc n) zero below = rw add-zero refl
get_or-bytes_from m addr (suc n) (suc i) below =
    let rest : i < n = omega arith in
    get_or-bytes_from m (addr + 1) n i rest ∙ (let at : addr + 1 + i ≡ addr + suc i = omega arith in ap m at)

-- the bytes of one run of addresses and the next
pub bytes_from-add : (m : Memory) (addr a b : ℕ) → bytes_from m addr (a + b) ≡ bytes_from m addr a ++ bytes_from m (addr + a) b
unfolding bytes_from
bytes_from-add m addr zero b = rw (zero-add, add-zero) refl
bytes_from-add m addr (suc a) b =
    let at : addr + 1 + a ≡ addr + suc a = omega arith in
    rw (suc-add, bytes_from-add m (addr + 1) a b, at) refl

-- memories with the same bytes at a run of addresses
pub bytes_from-same : (m n : Memory) (addr count : ℕ) → ((x : ℕ) → addr ≤ x → x < addr + count → m x ≡ n x) →
    bytes_from m addr count ≡ bytes_from n addr count
bytes_from-same m n addr count same =
    ext_get_or 0 (bytes_from m addr count) (bytes_from n addr count)
    (length-bytes_from m addr count ∙ sym (length-bytes_from n addr count))
    (λ i below.
    let inside : i < count = rw (length-bytes_from m addr count) at below in
    get_or-bytes_from m addr count i inside ∙ (same (addr + i) (omega arith) (omega arith) ∙ sym (get_or-bytes_from n addr count i inside)))

-- the three runs of a granule's bytes round an operand of len bytes
granule_runs : (m : Memory) (start lane len : ℕ) → lane + len ≤ 8 →
    bytes_from m start 8
    ≡ bytes_from m start lane ++ (bytes_from m (start + lane) len ++ bytes_from m (start + lane + len) (8 - lane - len))
granule_runs m start lane len room =
    let split : 8 ≡ lane + (len + (8 - lane - len)) = omega arith in
    ap (bytes_from m start) split
    ∙ rw (bytes_from-add m start lane (len + (8 - lane - len)), bytes_from-add m (start + lane) len (8 - lane - len)) refl

-- a word is below 2 ^ 64
pub word_at-below : (m : Memory) → IsMemory m → (start : ℕ) → word_at m start < 2 ^ 64
unfolding word_at
word_at-below m is start =
    let bound : little (bytes_from m start 8) < 256 ^ length (bytes_from m start 8) =
    little-bound (bytes_from m start 8) (AreBytes-bytes_from m is start 8) in
    rw (length-bytes_from m start 8) at bound

-- the bytes of a word
pub little_bytes-word_at : (m : Memory) → IsMemory m → (start : ℕ) → little_bytes 8 (word_at m start) ≡ bytes_from m start 8
unfolding word_at
little_bytes-word_at m is start =
    ap (λ (n : ℕ). little_bytes n (little (bytes_from m start 8))) (sym (length-bytes_from m start 8))
    ∙ little_bytes_little (bytes_from m start 8) (AreBytes-bytes_from m is start 8)

-- an operand's bytes, among those of its granule
pub bytes_from-slice : (m : Memory) (start lane len : ℕ) → lane + len ≤ 8 →
    slice_range (bytes_from m start 8) lane (lane + len) ≡ bytes_from m (start + lane) len
bytes_from-slice m start lane len room =
    rw (granule_runs m start lane len room)
    (middle_run (bytes_from m start lane) (bytes_from m (start + lane) len) (bytes_from m (start + lane + len) (8 - lane - len)) lane len
    (length-bytes_from m start lane) (length-bytes_from m (start + lane) len))

-- the number that is extracted from a word is that of the operand's bytes
pub extracted : (m : Memory) → IsMemory m → (start lane len word value : ℕ) → lane + len ≤ 8 → word ≡ word_at m start →
    value ≡ little (slice_range (little_bytes 8 word) lane (lane + len)) → value ≡ little (bytes_from m (start + lane) len)
extracted m is start lane len word value room at_start read =
    read ∙ rw (at_start, little_bytes-word_at m is start, bytes_from-slice m start lane len room) refl

-- that number's bytes are the operand's
pub little_bytes-extracted : (m : Memory) → IsMemory m → (start lane len word value : ℕ) → lane + len ≤ 8 → word ≡ word_at m start →
    value ≡ little (slice_range (little_bytes 8 word) lane (lane + len)) → little_bytes len value ≡ bytes_from m (start + lane) len
little_bytes-extracted m is start lane len word value room at_start read =
    let operand : List ℕ = bytes_from m (start + lane) len in
    let spelled : little_bytes (length operand) (little operand) ≡ operand = little_bytes_little operand (AreBytes-bytes_from m is (start + lane) len) in
    ap (little_bytes len) (extracted m is start lane len word value room at_start read) ∙ rw (length-bytes_from m (start + lane) len) at spelled

-- a written byte
pub with_bytes-inside : (m : Memory) (addr : ℕ) (bs : List ℕ) (x : ℕ) → addr ≤ x → x < addr + length bs →
    with_bytes m addr bs x ≡ slice_index bs (x - addr)
unfolding with_bytes
with_bytes-inside m addr bs x above below = grind (arith, nat_tests)

-- a byte below or above the written ones
pub with_bytes-outside : (m : Memory) (addr : ℕ) (bs : List ℕ) (x : ℕ) → (x < addr) ⊎ (addr + length bs ≤ x) →
    with_bytes m addr bs x ≡ m x
unfolding with_bytes
with_bytes-outside m addr bs x (inl below) = grind (arith, nat_tests)
with_bytes-outside m addr bs x (inr above) = grind (arith, nat_tests)

-- the written bytes, read again
pub bytes_from-with_bytes : (m : Memory) (addr : ℕ) (bs : List ℕ) → bytes_from (with_bytes m addr bs) addr (length bs) ≡ bs
bytes_from-with_bytes m addr bs =
    ext_get_or 0 (bytes_from (with_bytes m addr bs) addr (length bs)) bs (length-bytes_from (with_bytes m addr bs) addr (length bs))
    (λ i below.
    let inside : i < length bs = rw (length-bytes_from (with_bytes m addr bs) addr (length bs)) at below in
    let back : addr + i - addr ≡ i = omega arith in
    get_or-bytes_from (with_bytes m addr bs) addr (length bs) i inside
    ∙ (with_bytes-inside m addr bs (addr + i) (omega arith) (omega arith) ∙ ap (slice_index bs) back))

-- a memory with bytes written to it is one
pub IsMemory-with_bytes : (m : Memory) → IsMemory m → (addr : ℕ) (bs : List ℕ) → AreBytes bs → IsMemory (with_bytes m addr bs)
IsMemory-with_bytes m is addr bs are x = elim (cases_lt x addr) [
  | inl below ↦ rw (with_bytes-outside m addr bs x (inl below)) (is x)
  | inr above ↦ elim (cases_lt x (addr + length bs)) [
    | inl inside ↦ rw (with_bytes-inside m addr bs x above inside) (are (x - addr))
    | inr past ↦ rw (with_bytes-outside m addr bs x (inr past)) (is x)
  ]
]

-- the granule's bytes after a write within it
bytes_from-written : (m : Memory) (start lane : ℕ) (bs : List ℕ) → lane + length bs ≤ 8 →
    bytes_from (with_bytes m (start + lane) bs) start 8
    ≡ take lane (bytes_from m start 8) ++ (bs ++ drop (lane + length bs) (bytes_from m start 8))
bytes_from-written m start lane bs room =
    let len : ℕ = length bs in
    let new : Memory = with_bytes m (start + lane) bs in
    let before : bytes_from new start lane ≡ bytes_from m start lane =
    bytes_from-same new m start lane (λ x from to. with_bytes-outside m (start + lane) bs x (inl to)) in
    let after : bytes_from new (start + lane + len) (8 - lane - len) ≡ bytes_from m (start + lane + len) (8 - lane - len) =
    bytes_from-same new m (start + lane + len) (8 - lane - len) (λ x from to. with_bytes-outside m (start + lane) bs x (inr from)) in
    let kept : take lane (bytes_from m start 8) ≡ bytes_from m start lane =
    rw (granule_runs m start lane len room)
    (first_run (bytes_from m start lane) (bytes_from m (start + lane) len) (bytes_from m (start + lane + len) (8 - lane - len)) lane
    (length-bytes_from m start lane)) in
    let rest : drop (lane + len) (bytes_from m start 8) ≡ bytes_from m (start + lane + len) (8 - lane - len) =
    rw (granule_runs m start lane len room)
    (last_run (bytes_from m start lane) (bytes_from m (start + lane) len) (bytes_from m (start + lane + len) (8 - lane - len)) lane len
    (length-bytes_from m start lane) (length-bytes_from m (start + lane) len)) in
    rw (granule_runs new start lane len room, before, bytes_from-with_bytes m (start + lane) bs, after, kept, rest) refl

-- the bytes of a word after a write within it
pub word_at-with_bytes : (m : Memory) → IsMemory m → (start lane : ℕ) (bs : List ℕ) → AreBytes bs → lane + length bs ≤ 8 →
    little_bytes 8 (word_at (with_bytes m (start + lane) bs) start)
    ≡ take lane (bytes_from m start 8) ++ (bs ++ drop (lane + length bs) (bytes_from m start 8))
word_at-with_bytes m is start lane bs are room =
    little_bytes-word_at (with_bytes m (start + lane) bs) (IsMemory-with_bytes m is (start + lane) bs are) start
    ∙ bytes_from-written m start lane bs room

-- the word that an insertion makes is the word after the write
pub inserted : (m : Memory) → IsMemory m → (start lane len value word after : ℕ) (bs : List ℕ) → lane + len ≤ 8 →
    word ≡ word_at m start → little_bytes len value ≡ bs → after < 2 ^ 64 →
    little_bytes 8 after ≡ take lane (little_bytes 8 word) ++ (little_bytes len value ++ drop (lane + len) (little_bytes 8 word)) →
    after ≡ word_at (with_bytes m (start + lane) bs) start
inserted m is start lane len value word after bs room at_start spells below made =
    let count : length bs ≡ len = ap length (sym spells) ∙ length-little_bytes len value in
    let are : AreBytes bs = subst AreBytes spells (AreBytes-little_bytes len value) in
    let within : lane + length bs ≤ 8 = omega arith in
    let new_is : IsMemory (with_bytes m (start + lane) bs) = IsMemory-with_bytes m is (start + lane) bs are in
    let same : little_bytes 8 after ≡ little_bytes 8 (word_at (with_bytes m (start + lane) bs) start) =
    made ∙ (rw (at_start, little_bytes-word_at m is start, spells, ← count) refl ∙ sym (word_at-with_bytes m is start lane bs are within)) in
    same_from_bytes 8 after (word_at (with_bytes m (start + lane) bs) start) below (word_at-below (with_bytes m (start + lane) bs) new_is start) same

-- a write leaves each word that it does not reach
pub word_at-outside : (m : Memory) (addr : ℕ) (bs : List ℕ) (start : ℕ) → (start + 8 ≤ addr) ⊎ (addr + length bs ≤ start) →
    word_at (with_bytes m addr bs) start ≡ word_at m start
unfolding word_at
word_at-outside m addr bs start (inl below) =
    ap little (bytes_from-same (with_bytes m addr bs) m start 8 (λ x from to. with_bytes-outside m addr bs x (inl (omega arith))))
word_at-outside m addr bs start (inr above) =
    ap little (bytes_from-same (with_bytes m addr bs) m start 8 (λ x from to. with_bytes-outside m addr bs x (inr (omega arith))))

-- an enabled byte of the operand
pub with_enabled-on : (lanes : List ℕ) (enables : ℕ) (m : Memory) (addr n x : ℕ) → addr ≤ x → x < addr + n →
    bit_at enables (lane_of x) ≡ 1 → with_enabled lanes enables m addr n x ≡ slice_index lanes (lane_of x)
unfolding with_enabled
with_enabled-on lanes enables m addr n x above below on = grind (arith, nat_tests)

-- a byte that is not enabled
pub with_enabled-off : (lanes : List ℕ) (enables : ℕ) (m : Memory) (addr n x : ℕ) →
    bit_at enables (lane_of x) ≡ 0 → with_enabled lanes enables m addr n x ≡ m x
unfolding with_enabled
with_enabled-off lanes enables m addr n x off = grind (arith, nat_tests)

-- a byte below or above the operand
pub with_enabled-outside : (lanes : List ℕ) (enables : ℕ) (m : Memory) (addr n x : ℕ) → (x < addr) ⊎ (addr + n ≤ x) →
    with_enabled lanes enables m addr n x ≡ m x
unfolding with_enabled
with_enabled-outside lanes enables m addr n x (inl below) = grind (arith, nat_tests)
with_enabled-outside lanes enables m addr n x (inr above) = grind (arith, nat_tests)

-- a memory with enabled lanes written to it is one
pub IsMemory-with_enabled : (lanes : List ℕ) (enables : ℕ) (m : Memory) → AreBytes lanes → IsMemory m → (addr n : ℕ) →
    IsMemory (with_enabled lanes enables m addr n)
unfolding with_enabled
IsMemory-with_enabled lanes enables m are is addr n x = grind (arith, nat_tests, are (lane_of x), is x)

-- an enabled write leaves each word that it does not reach
pub word_at-outside_enabled : (lanes : List ℕ) (enables : ℕ) (m : Memory) (addr n start : ℕ) →
    (start + 8 ≤ addr) ⊎ (addr + n ≤ start) → word_at (with_enabled lanes enables m addr n) start ≡ word_at m start
unfolding word_at
word_at-outside_enabled lanes enables m addr n start (inl below) =
    ap little (bytes_from-same (with_enabled lanes enables m addr n) m start 8
    (λ x from to. with_enabled-outside lanes enables m addr n x (inl (omega arith))))
word_at-outside_enabled lanes enables m addr n start (inr above) =
    ap little (bytes_from-same (with_enabled lanes enables m addr n) m start 8
    (λ x from to. with_enabled-outside lanes enables m addr n x (inr (omega arith))))
