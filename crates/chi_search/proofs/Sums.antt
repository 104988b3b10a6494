-- what a sum leaves in a run of bytes of the word
use Rattle.std.proofs.Common.{◌≡◌, ℕ, ◌+◌, ◌-◌, ◌*◌, ◌/◌, ◌%◌, ◌^◌, ◌<◌, ◌≤◌, ◌⊎◌, min, Bool, true, false, cond, List, length, slice_index, reverse, refl, sym, ap, ap₂, ◌∙◌, arith, inl, inr}
use Rattle.std.specs.Int.{bit_at}
use Rattle.std.proofs.lemmas.Bool.{cases_lt}
use Rattle.std.proofs.lemmas.List.{get_or-reverse}
use Rattle.std.proofs.lemmas.Nat.Bits.{bit_at-lt, bit_at-zero, bit_at_mask_inside, same_from_bits_below}
use Rattle.chi_fields.specs.declared.kind.Kind.{Kind}
use Rattle.chi_fields.specs.declared.kind.Kind.TheVariants.{Store, Load}
use Rattle.chi_fields.specs.declared.kind.Op.TheVariants.{Add}
use Rattle.chi_fields.specs.Access.{IsLawful, Access}
use Rattle.chi_lanes.specs.After.{after, after_as, old}
use Rattle.chi_lanes.specs.Bytes.{bytes, little_bytes, number_in}
use Rattle.chi_lanes.specs.Combination.{combine}
use Rattle.chi_lanes.specs.Memory.{Memory, IsMemory, bytes_from, granule_start, with_bytes}
use Rattle.chi_lanes.proofs.Digits.{length-little_bytes, little_bytes-mod}
use Rattle.chi_lanes.proofs.MaskedBytes.{slice_index-little_bytes}
use Rattle.chi_lanes.proofs.MemoryLemmas.{AreBytes-bytes_from, get_or-bytes_from, length-bytes_from, with_bytes-inside}
use Rattle.chi_lanes.proofs.Operands.{IsPlaced, placed}
use Rattle.chi_lanes.proofs.ReversedBytes.{bytes-number_in, length-bytes}
use Rattle.chi_trace.specs.declared.operation.Operation.{Operation}
use Rattle.chi_trace.specs.Granules.{next}
use Rattle.chi_trace.proofs.Steps.{IsMemory-with_word}
use Rattle.chi_search.specs.Effects.{Agree, IsInOperand, IsSum}
use Rattle.chi_search.proofs.Carries.{AddsLike, adds_like, digit}
use Rattle.chi_search.proofs.LikeStores.{sent_by}
use Rattle.chi_search.proofs.Told.{bit_after, bit_here, byte_of, here, kept_outside}
use Rattle.chi_search.proofs.WordBits.{mask_bit}

-- the word whose bytes are 255 in a run of bytes, and 0 elsewhere
abbrev pub run : ℕ → ℕ → ℕ
run lane len = (256 ^ len - 1) * 256 ^ lane

-- where a digit of a number stands among its bytes
abbrev pub place : Bool → ℕ → ℕ → ℕ
place endian len d = cond endian (len - 1 - d) d

-- it is one of the bytes
pub place_below : (endian : Bool) (len d : ℕ) → d < len → place endian len d < len
place_below true len d below = omega (arith, below)
place_below false len d below = below

-- and stands where that digit does
pub place_place : (endian : Bool) (len d : ℕ) → d < len → place endian len (place endian len d) ≡ d
place_place true len d below = omega (arith, below)
place_place false len d below = refl

-- a digit among a number's bytes
byte_of_number : (endian : Bool) (len n d : ℕ) → d < len → slice_index (bytes endian len n) (place endian len d) ≡ digit n d
byte_of_number true len n d below =
    let long : length (little_bytes len n) ≡ len = length-little_bytes len n in
    let within : len - 1 - d < length (little_bytes len n) = omega (arith, below, long) in
    let back : length (little_bytes len n) - 1 - (len - 1 - d) ≡ d = omega (arith, below, long) in
    get_or-reverse (little_bytes len n) (len - 1 - d) 0 within
    ∙ ap (slice_index (little_bytes len n)) back
    ∙ slice_index-little_bytes len n d below
byte_of_number false len n d below = slice_index-little_bytes len n d below

-- the bytes of a number, cut to so many
bytes-mod : (endian : Bool) (len n : ℕ) → bytes endian len (n % 256 ^ len) ≡ bytes endian len n
bytes-mod true len n = ap reverse (little_bytes-mod len n)
bytes-mod false len n = little_bytes-mod len n

-- a digit of the number that the operand's bytes spell
pub digit_of_operand : (endian : Bool) (m : Memory) (addr len d : ℕ) → IsMemory m → d < len
    → digit (number_in endian (bytes_from m addr len)) d ≡ m (addr + place endian len d)
digit_of_operand endian m addr len d is below =
    let back : bytes endian len (number_in endian (bytes_from m addr len)) ≡ bytes_from m addr len =
    ap (λ l. bytes endian l (number_in endian (bytes_from m addr len))) (sym (length-bytes_from m addr len))
    ∙ bytes-number_in endian (bytes_from m addr len) (AreBytes-bytes_from m is addr len) in
    sym (byte_of_number endian len (number_in endian (bytes_from m addr len)) d below)
    ∙ ap (λ bs. slice_index bs (place endian len d)) back
    ∙ get_or-bytes_from m addr len (place endian len d) (place_below endian len d below)

-- a byte of a sum
pub byte_of_sum : (endian : Bool) (m : Memory) (addr len : ℕ) (bs : List ℕ) (d : ℕ) → d < len
    → with_bytes m addr (combine Add endian (bytes_from m addr len) bs) (addr + place endian len d)
    ≡ digit (number_in endian (bytes_from m addr len) + number_in endian bs) d
byte_of_sum endian m addr len bs d below =
    with_bytes-inside m addr written (addr + place endian len d) (omega arith) (omega (arith, long, place_below endian len d below))
    ∙ ap (slice_index written) at
    ∙ ap (λ ys. slice_index ys (place endian len d)) spelled
    ∙ byte_of_number endian len sum d below
  where
    sum : ℕ
    sum = number_in endian (bytes_from m addr len) + number_in endian bs

    written : List ℕ
    written = combine Add endian (bytes_from m addr len) bs

    long : length written ≡ len
    long = length-bytes endian (length (bytes_from m addr len)) _ ∙ length-bytes_from m addr len

    at : addr + place endian len d - addr ≡ place endian len d
    at = omega arith

    spelled : written ≡ bytes endian len sum
    spelled = bytes-mod endian (length (bytes_from m addr len)) sum ∙ ap (λ l. bytes endian l sum) (length-bytes_from m addr len)

-- what a sum leaves
pub sum_after : (kind : Kind) (o : Access) (m : Memory) → IsSum kind
    → after_as kind o m ≡ with_bytes m o.addr (combine Add o.endian (old o m) (sent_by o))
sum_after (Store Add) o m sum = refl
sum_after (Load Add) o m sum = refl
sum_after kind o m sum = absurd sum

-- the operand's number
abbrev number : Access → Memory → ℕ
number o m = number_in o.endian (old o m)

-- the lowest digit of an operand that stands in a run of bytes, or the operand's length
abbrev lowest : Bool → ℕ → ℕ → ℕ → ℕ → ℕ
lowest endian first size lane len = min (cond endian (first + size - (lane + len)) (lane - first)) size

-- the byte is one of the run
abbrev IsInRun : ℕ → ℕ → ℕ → Type 0
IsInRun lane len j = (lane ≤ j) × (j < lane + len)

-- the digits below it
lower : (endian : Bool) (first size lane len d : ℕ) → d < lowest endian first size lane len
    → (first + place endian size d < lane) ⊎ (lane + len ≤ first + place endian size d)
lower true first size lane len d below = inr (omega (arith, below))
lower false first size lane len d below = inl (omega (arith, below))

-- a digit in the run
not_lower : (endian : Bool) (first size lane len i : ℕ) → i < size → IsInRun lane len (first + place endian size i)
    → lowest endian first size lane len ≤ i
not_lower true first size lane len i below inside = omega (arith, below, inside.0, inside.1)
not_lower false first size lane len i below inside = omega (arith, below, inside.0, inside.1)

-- and those from the lowest up to it
between : (endian : Bool) (first size lane len i d : ℕ) → i < size → IsInRun lane len (first + place endian size i)
    → lowest endian first size lane len ≤ d → d ≤ i → IsInRun lane len (first + place endian size d)
between true first size lane len i d below inside above under =
    (omega (arith, below, inside.0, inside.1, above, under), omega (arith, below, inside.0, inside.1, above, under))
between false first size lane len i d below inside above under =
    (omega (arith, below, inside.0, inside.1, above, under), omega (arith, below, inside.0, inside.1, above, under))

-- a bit of a word's byte
pub bit_of_byte : (op : Operation) (v j i : ℕ) → v < 2 ^ 64 → j < 8 → i < 8
    → bit_at v (8 * j + i) ≡ bit_at (here op v (granule_start op.access.addr + j)) i
bit_of_byte op v j i below inside bit =
    let byte : (8 * j + i) / 8 ≡ j = omega (arith, bit) in
    let rest : (8 * j + i) % 8 ≡ i = omega (arith, bit) in
    bit_here op v (8 * j + i) below (omega (arith, inside, bit))
    ∙ ap₂ (λ y z. bit_at (here op v (granule_start op.access.addr + y)) z) byte rest

-- no bit of the mask is 1 out of the run
pub run_zero : (lane len k : ℕ) → (k < 8 * lane) ⊎ (8 * (lane + len) ≤ k) → bit_at (run lane len) k ≡ 0
run_zero lane len k outside = elim (cases_lt 0 (bit_at (run lane len) k)) [
  | inl some ↦
      let one : bit_at (run lane len) k ≡ 1 = omega (arith, some, bit_at-lt (run lane len) k) in
      let inside : (8 * lane ≤ k) × (k < 8 * (lane + len)) = (mask_bit lane len k).0 one in
      elim outside [
        | inl below ↦ absurd (omega (arith, below, inside.0))
        | inr above ↦ absurd (omega (arith, above, inside.1))
      ]
  | inr none ↦ omega (arith, none)
]

-- a bit of a byte out of the run
pub outside_bit : (lane len j i : ℕ) → i < 8 → (j < lane) ⊎ (lane + len ≤ j) → (8 * j + i < 8 * lane) ⊎ (8 * (lane + len) ≤ 8 * j + i)
outside_bit lane len j i bit (inl below) = inl (omega (arith, bit, below))
outside_bit lane len j i bit (inr above) = inr (omega (arith, bit, above))

-- a byte of a word that has this bit in each place out of the run
filled : (op : Operation) (lane len v b filling : ℕ) → v < 2 ^ 64 → filling < 256 → ((i : ℕ) → i < 8 → bit_at filling i ≡ b)
    → ((k : ℕ) → k < 64 → bit_at (run lane len) k ≡ 0 → bit_at v k ≡ b)
    → (j : ℕ) → j < 8 → (j < lane) ⊎ (lane + len ≤ j) → here op v (granule_start op.access.addr + j) ≡ filling
filled op lane len v b filling below byte same fills j inside outside =
    same_from_bits_below 8 (here op v (granule_start op.access.addr + j)) filling
    (IsMemory-with_word _ v (granule_start op.access.addr + j)) byte (λ i bit.
    sym (bit_of_byte op v j i below inside bit)
    ∙ fills (8 * j + i) (omega (arith, inside, bit)) (run_zero lane len (8 * j + i) (outside_bit lane len j i bit outside))
    ∙ sym (same i bit))

-- a byte of the run in two words that agree there
agreed : (op : Operation) (lane len v w : ℕ) → lane + len ≤ 8 → v < 2 ^ 64 → w < 2 ^ 64 → Agree (run lane len) v w → (j : ℕ) → IsInRun lane len j
    → here op w (granule_start op.access.addr + j) ≡ here op v (granule_start op.access.addr + j)
agreed op lane len v w room v_below w_below agree j inside =
    let within : j < 8 = omega (arith, room, inside.1) in
    same_from_bits_below 8 (here op w (granule_start op.access.addr + j)) (here op v (granule_start op.access.addr + j))
    (IsMemory-with_word _ w (granule_start op.access.addr + j)) (IsMemory-with_word _ v (granule_start op.access.addr + j)) (λ i bit.
    sym (bit_of_byte op w j i w_below within bit)
    ∙ sym (agree (8 * j + i) ((mask_bit lane len (8 * j + i)).1 (omega (arith, inside.0), omega (arith, inside.1, bit))))
    ∙ bit_of_byte op v j i v_below within bit)

-- a digit of the operand's number is a byte of the granule
pub digit_here : (op : Operation) (v d : ℕ) → IsPlaced op.access.addr op.access.len → d < op.access.len
    → digit (number op.access (here op v)) d
    ≡ here op v (granule_start op.access.addr + (op.access.addr % 8 + place op.access.endian op.access.len d))
digit_here op v d placing below =
    let at : op.access.addr + place op.access.endian op.access.len d
    ≡ granule_start op.access.addr + (op.access.addr % 8 + place op.access.endian op.access.len d) = omega (arith, placing.at) in
    digit_of_operand op.access.endian (here op v) op.access.addr op.access.len d (IsMemory-with_word _ v) below ∙ ap (here op v) at

-- the lowest digit of the operand in the run
abbrev from_digit : Operation → ℕ → ℕ → ℕ
from_digit op lane len = lowest op.access.endian (op.access.addr % 8) op.access.len lane len

-- a word is added to as another that agrees with it in the run
like : (op : Operation) → IsLawful op.access → IsSum op.access.kind → (lane len w v : ℕ) → lane + len ≤ 8 → w < 2 ^ 64 → v < 2 ^ 64
    → Agree (run lane len) v w
    → AddsLike (number op.access (here op w)) (number op.access (here op v)) (number_in op.access.endian (sent_by op.access)) (from_digit op lane len)
    → Agree (run lane len) (next op w) (next op v)
like op lawful sum lane len w v room w_below v_below agree adds k one =
    elim (cases_lt (byte_of op k) op.access.addr) [
      | inl below ↦ apart (λ within. omega (arith, below, within.0))
      | inr above ↦ elim (cases_lt (byte_of op k) (op.access.addr + op.access.len)) [
        | inl below ↦ inside above below
        | inr past ↦ apart (λ within. omega (arith, past, within.1))
      ]
    ]
  where
    o : Access
    o = op.access

    placing : IsPlaced o.addr o.len
    placing = placed o.addr o.len lawful.part lawful.aligned

    in_run : (8 * lane ≤ k) × (k < 8 * (lane + len))
    in_run = (mask_bit lane len k).0 one

    in_word : k < 64
    in_word = omega (arith, in_run.1, room)

    apart : (IsInOperand o k → ⊥) → bit_at (next op w) k ≡ bit_at (next op v) k
    apart outside = kept_outside op lawful w k w_below in_word outside ∙ sym (agree k one) ∙ sym (kept_outside op lawful v k v_below in_word outside)

    by_digit : (d : ℕ) → d < o.len → IsInRun lane len (o.addr % 8 + place o.endian o.len d)
        → after o (here op w) (o.addr + place o.endian o.len d) ≡ after o (here op v) (o.addr + place o.endian o.len d)
    by_digit d below within =
        ap (λ (m : Memory). m (o.addr + place o.endian o.len d)) (sum_after o.kind o (here op w) sum)
        ∙ byte_of_sum o.endian (here op w) o.addr o.len (sent_by o) d below
        ∙ adds d (not_lower o.endian (o.addr % 8) o.len lane len d below within) (λ e first last.
        let lower_one : e < o.len = omega (arith, last, below) in
        digit_here op w e placing lower_one
        ∙ agreed op lane len v w room v_below w_below agree (o.addr % 8 + place o.endian o.len e)
        (between o.endian (o.addr % 8) o.len lane len d e below within first last)
        ∙ sym (digit_here op v e placing lower_one))
        ∙ sym (byte_of_sum o.endian (here op v) o.addr o.len (sent_by o) d below)
        ∙ sym (ap (λ (m : Memory). m (o.addr + place o.endian o.len d)) (sum_after o.kind o (here op v) sum))

    inside : o.addr ≤ byte_of op k → byte_of op k < o.addr + o.len → bit_at (next op w) k ≡ bit_at (next op v) k
    inside above below =
        let p : ℕ = byte_of op k - o.addr in
        let p_below : p < o.len = omega (arith, above, below) in
        let back : place o.endian o.len (place o.endian o.len p) ≡ p = place_place o.endian o.len p p_below in
        let at : o.addr + place o.endian o.len (place o.endian o.len p) ≡ byte_of op k = omega (arith, back, above) in
        let here_in_run : IsInRun lane len (o.addr % 8 + place o.endian o.len (place o.endian o.len p)) =
        (omega (arith, back, above, placing.at, in_run.0), omega (arith, back, above, placing.at, in_run.1)) in
        bit_after op w k lawful in_word
        ∙ ap (λ b. bit_at b (k % 8))
        (ap (after o (here op w)) (sym at)
        ∙ by_digit (place o.endian o.len p) (place_below o.endian o.len p p_below) here_in_run
        ∙ ap (after o (here op v)) at)
        ∙ sym (bit_after op v k lawful in_word)

-- In a run of bytes of the word a sum depends on the other bytes by one carry alone: it is that of the word with 0 there,
-- or that of the word with 1 in each bit there.
pub sum_within : (op : Operation) → IsLawful op.access → IsSum op.access.kind → (lane len : ℕ) → 1 ≤ len → lane + len ≤ 8
    → (w low high : ℕ) → w < 2 ^ 64 → low < 2 ^ 64 → high < 2 ^ 64
    → Agree (run lane len) low w → Agree (run lane len) high w
    → ((k : ℕ) → k < 64 → bit_at (run lane len) k ≡ 0 → bit_at low k ≡ 0)
    → ((k : ℕ) → k < 64 → bit_at (run lane len) k ≡ 0 → bit_at high k ≡ 1)
    → Agree (run lane len) (next op w) (next op low) ⊎ Agree (run lane len) (next op w) (next op high)
sum_within op lawful sum lane len some room w low high w_below low_below high_below low_agrees high_agrees zeros ones =
    elim (adds_like (number o (here op w)) (number o (here op low)) (number o (here op high)) (number_in o.endian (sent_by o)) (from_digit op lane len)
    lows highs) [
      | inl adds ↦ inl (like op lawful sum lane len w low room w_below low_below low_agrees adds)
      | inr adds ↦ inr (like op lawful sum lane len w high room w_below high_below high_agrees adds)
    ]
  where
    o : Access
    o = op.access

    placing : IsPlaced o.addr o.len
    placing = placed o.addr o.len lawful.part lawful.aligned

    digit_filled : (v b filling : ℕ) → v < 2 ^ 64 → filling < 256 → ((i : ℕ) → i < 8 → bit_at filling i ≡ b)
        → ((k : ℕ) → k < 64 → bit_at (run lane len) k ≡ 0 → bit_at v k ≡ b)
        → (d : ℕ) → d < from_digit op lane len → digit (number o (here op v)) d ≡ filling
    digit_filled v b filling below byte same fills d under =
        let d_below : d < o.len = omega (arith, under) in
        let within : o.addr % 8 + place o.endian o.len d < 8 = omega (arith, placing.room, place_below o.endian o.len d d_below) in
        digit_here op v d placing d_below
        ∙ filled op lane len v b filling below byte same fills (o.addr % 8 + place o.endian o.len d) within
        (lower o.endian (o.addr % 8) o.len lane len d under)

    lows : (d : ℕ) → d < from_digit op lane len → digit (number o (here op low)) d ≡ 0
    lows = digit_filled low 0 0 low_below (omega arith) (λ i _. bit_at-zero i) zeros

    highs : (d : ℕ) → d < from_digit op lane len → digit (number o (here op high)) d ≡ 255
    highs = digit_filled high 1 255 high_below (omega arith) (λ i bit. bit_at_mask_inside 0 8 i (omega arith) bit) ones
