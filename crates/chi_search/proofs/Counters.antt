-- the number that an operand of a word spells, and what a sum makes of it
use Rattle.std.proofs.Common.{◌≡◌, ℕ, ◌+◌, ◌-◌, ◌*◌, ◌/◌, ◌%◌, ◌^◌, ◌<◌, ◌≤◌, Bool, true, false, List, length, slice_range, sym, ap, ◌∙◌, arith, mod-eq_of_lt}
use Rattle.std.specs.Int.{bit_at}
use Rattle.std.proofs.lemmas.Nat.Bits.{same_from_bits_below}
use Rattle.chi_fields.specs.Access.{IsLawful, Access}
use Rattle.chi_fields.specs.declared.kind.Op.TheVariants.{Add}
use Rattle.chi_lanes.specs.After.{after, old}
use Rattle.chi_lanes.specs.Bytes.{little_bytes, number_in}
use Rattle.chi_lanes.specs.Combination.{combine}
use Rattle.chi_lanes.specs.Memory.{Memory, bytes_from, granule_start, with_bytes}
use Rattle.chi_lanes.proofs.AfterLemmas.{IsMemory-after, length-sent}
use Rattle.chi_lanes.proofs.CombineLemmas.{masked-below}
use Rattle.chi_lanes.proofs.Digits.{little_bytes_little}
use Rattle.chi_lanes.proofs.MemoryLemmas.{AreBytes-bytes_from, bytes_from-same, bytes_from-slice, bytes_from-with_bytes, length-bytes_from, little_bytes-word_at}
use Rattle.chi_lanes.proofs.Operands.{IsPlaced, placed}
use Rattle.chi_lanes.proofs.ReversedBytes.{length-bytes, number_in-bound, number_in-bytes}
use Rattle.chi_trace.specs.declared.operation.Operation.{Operation}
use Rattle.chi_trace.specs.Granules.{next, with_word}
use Rattle.chi_trace.proofs.Agree.{agree, old_of_same}
use Rattle.chi_trace.proofs.Steps.{IsMemory-with_word, next-below, word_at-with_word}
use Rattle.chi_search.specs.Counters.{counter_of, sent_number}
use Rattle.chi_search.specs.Effects.{IsInOperand, IsSum}
use Rattle.chi_search.proofs.LikeStores.{bytes_sent, sent_by}
use Rattle.chi_search.proofs.Sums.{sum_after}
use Rattle.chi_search.proofs.Told.{here}
use Rattle.chi_search.proofs.WordBits.{bit_of_word}

-- the memory that has a word in an access's granule
abbrev memory : Access → ℕ → Memory
memory o w = with_word (granule_start o.addr) w

-- a counter fits the operand's bytes
pub counter-below : (o : Access) (w : ℕ) → counter_of o w < 256 ^ o.len
counter-below o w =
    let m : Memory = memory o w in
    let bound : number_in o.endian (old o m) < 256 ^ length (old o m) =
    number_in-bound o.endian (old o m) (AreBytes-bytes_from m (IsMemory-with_word _ w) o.addr o.len) in
    rw (length-bytes_from m o.addr o.len) at bound

-- the number of a memory's operand after a sum was written to it
number_of_sum : (endian : Bool) (m : Memory) (addr len : ℕ) (bs : List ℕ)
    → number_in endian (bytes_from (with_bytes m addr (combine Add endian (bytes_from m addr len) bs)) addr len)
    ≡ (number_in endian (bytes_from m addr len) + number_in endian bs) % 256 ^ len
number_of_sum endian m addr len bs =
    ap (number_in endian) (ap (bytes_from (with_bytes m addr written) addr) (sym long) ∙ bytes_from-with_bytes m addr written)
    ∙ number_in-bytes endian size (sum % 256 ^ size)
    ∙ mod-eq_of_lt (masked-below size sum)
    ∙ ap (λ l. sum % 256 ^ l) (length-bytes_from m addr len)
  where
    size : ℕ
    size = length (bytes_from m addr len)

    sum : ℕ
    sum = number_in endian (bytes_from m addr len) + number_in endian bs

    written : List ℕ
    written = combine Add endian (bytes_from m addr len) bs

    long : length written ≡ len
    long = length-bytes endian size _ ∙ length-bytes_from m addr len

-- the word that an operation leaves has the operand that the operation leaves
old_of_next : (op : Operation) → IsLawful op.access → (w : ℕ) → old op.access (memory op.access (next op w)) ≡ old op.access (after op.access (here op w))
unfolding next
old_of_next op lawful w =
    old_of_same op.access (memory op.access (next op w)) left lawful
    (agree (memory op.access (next op w)) left (granule_start op.access.addr) (IsMemory-with_word _ (next op w))
    (IsMemory-after op.access (here op w) (IsMemory-with_word _ w) lawful)
    (word_at-with_word (granule_start op.access.addr) (next op w) (next-below op w lawful)))
  where
    left : Memory
    left = after op.access (here op w)

-- a sum adds what was sent, and the counter wraps
pub counter_of_sum : (op : Operation) → IsLawful op.access → IsSum op.access.kind → (w : ℕ) → w < 2 ^ 64
    → counter_of op.access (next op w) ≡ (counter_of op.access w + sent_number op.access) % 256 ^ op.access.len
counter_of_sum op lawful sum w below =
    let o = op.access in
    ap (number_in o.endian) (old_of_next op lawful w ∙ ap (old o) (sum_after o.kind o (here op w) sum))
    ∙ number_of_sum o.endian (here op w) o.addr o.len (sent_by o)

-- a bit of a word is one of a byte of its memory
bit_of_memory : (o : Access) (w k : ℕ) → w < 2 ^ 64 → k < 64 → bit_at w k ≡ bit_at (memory o w (granule_start o.addr + k / 8)) (k % 8)
bit_of_memory o w k below within =
    ap (λ n. bit_at n k) (sym (word_at-with_word (granule_start o.addr) w below))
    ∙ bit_of_word (memory o w) (IsMemory-with_word _ w) (granule_start o.addr) k within

-- and a bit of the operand's byte is one of the word
bit_of_operand : (o : Access) (w x i : ℕ) → IsLawful o → w < 2 ^ 64 → o.addr ≤ x → x < o.addr + o.len → i < 8
    → bit_at (memory o w x) i ≡ bit_at w (8 * (x - granule_start o.addr) + i)
bit_of_operand o w x i lawful below from to bit =
    let placing : IsPlaced o.addr o.len = placed o.addr o.len lawful.part lawful.aligned in
    let k : ℕ = 8 * (x - granule_start o.addr) + i in
    let at : granule_start o.addr + k / 8 ≡ x = omega (arith, placing.at, from, bit) in
    let rest : k % 8 ≡ i = omega (arith, bit) in
    let within : k < 64 = omega (arith, placing.at, placing.room, to, bit) in
    ap (λ y. bit_at (memory o w y) i) (sym at)
    ∙ ap (bit_at (memory o w (granule_start o.addr + k / 8))) (sym rest)
    ∙ sym (bit_of_memory o w k below within)

-- words that have the same bits in the operand have the same counter
pub same_counter : (o : Access) → IsLawful o → (v w : ℕ) → v < 2 ^ 64 → w < 2 ^ 64
    → ((k : ℕ) → IsInOperand o k → bit_at v k ≡ bit_at w k) → counter_of o v ≡ counter_of o w
same_counter o lawful v w v_below w_below same = ap (number_in o.endian) (bytes_from-same (memory o v) (memory o w) o.addr o.len by_byte)
  where
    by_byte : (x : ℕ) → o.addr ≤ x → x < o.addr + o.len → memory o v x ≡ memory o w x
    by_byte x from to =
        same_from_bits_below 8 (memory o v x) (memory o w x) (IsMemory-with_word _ v x) (IsMemory-with_word _ w x) (λ i bit.
        let placing : IsPlaced o.addr o.len = placed o.addr o.len lawful.part lawful.aligned in
        let at : granule_start o.addr + (8 * (x - granule_start o.addr) + i) / 8 ≡ x = omega (arith, placing.at, from, bit) in
        bit_of_operand o v x i lawful v_below from to bit
        ∙ same (8 * (x - granule_start o.addr) + i) (omega (arith, at, from), omega (arith, at, to))
        ∙ sym (bit_of_operand o w x i lawful w_below from to bit))

-- the operand's bytes are a range of those of the word
operand_of_word : (o : Access) → IsLawful o → (w : ℕ) → w < 2 ^ 64
    → slice_range (little_bytes 8 w) (o.addr % 8) (o.addr % 8 + o.len) ≡ bytes_from (memory o w) o.addr o.len
operand_of_word o lawful w below =
    let placing : IsPlaced o.addr o.len = placed o.addr o.len lawful.part lawful.aligned in
    let start : ℕ = granule_start o.addr in
    ap (λ bs. slice_range bs (o.addr % 8) (o.addr % 8 + o.len))
    (ap (little_bytes 8) (sym (word_at-with_word start w below)) ∙ little_bytes-word_at (memory o w) (IsMemory-with_word _ w) start)
    ∙ bytes_from-slice (memory o w) start (o.addr % 8) o.len placing.room
    ∙ ap (λ a. bytes_from (memory o w) a o.len) placing.at

-- the number that is extracted of the word is that of the operand's bytes, the least significant first
pub counter_of_word : (o : Access) → IsLawful o → (w : ℕ) → w < 2 ^ 64
    → number_in false (slice_range (little_bytes 8 w) (o.addr % 8) (o.addr % 8 + o.len))
    ≡ number_in false (bytes_from (with_word (granule_start o.addr) w) o.addr o.len)
counter_of_word o lawful w below = ap (number_in false) (operand_of_word o lawful w below)

-- and a big-endian counter is spelled by that number's bytes, the most significant first
pub counter_of_word-big : (o : Access) (w n : ℕ) → o.endian ≡ true → n ≡ number_in false (bytes_from (with_word (granule_start o.addr) w) o.addr o.len)
    → number_in true (little_bytes o.len n) ≡ counter_of o w
counter_of_word-big o w n big is =
    let bs : List ℕ = old o (memory o w) in
    let spelled : little_bytes (length bs) (number_in false bs) ≡ bs = little_bytes_little bs (AreBytes-bytes_from (memory o w) (IsMemory-with_word _ w) o.addr o.len) in
    ap (λ x. number_in true (little_bytes o.len x)) is
    ∙ ap (λ l. number_in true (little_bytes l (number_in false bs))) (sym (length-bytes_from (memory o w) o.addr o.len))
    ∙ ap (number_in true) spelled
    ∙ ap (λ endian. number_in endian bs) (sym big)

-- accesses of one operand have the same counter
pub same_operand : (x y : Access) (w : ℕ) → x.addr ≡ y.addr → x.len ≡ y.len → x.endian ≡ y.endian → counter_of x w ≡ counter_of y w
same_operand x y w addr len endian = λ i. number_in (endian i) (bytes_from (with_word (granule_start (addr i)) w) (addr i) (len i))

-- what is sent fits the operand's bytes
pub sent-below : (o : Access) → IsLawful o → sent_number o < 256 ^ o.len
sent-below o lawful =
    let bound : number_in o.endian (sent_by o) < 256 ^ length (sent_by o) = number_in-bound o.endian (sent_by o) (bytes_sent o lawful) in
    rw (length-sent o lawful) at bound

-- and is spelled, if it is big-endian, by the bytes of its little-endian number, the most significant first
pub sent-big : (o : Access) → IsLawful o → (n : ℕ) → o.endian ≡ true → n ≡ number_in false (sent_by o) → number_in true (little_bytes o.len n) ≡ sent_number o
sent-big o lawful n big is =
    ap (λ x. number_in true (little_bytes o.len x)) is
    ∙ ap (λ l. number_in true (little_bytes l (number_in false (sent_by o)))) (sym (length-sent o lawful))
    ∙ ap (number_in true) (little_bytes_little (sent_by o) (bytes_sent o lawful))
    ∙ ap (λ endian. number_in endian (sent_by o)) (sym big)
