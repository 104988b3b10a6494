-- memories with the same bytes in an operation's granule: it answers the same, and leaves the same bytes there
use Rattle.std.proofs.Common.{◌≡◌, ℕ, ◌+◌, ◌-◌, ◌<◌, ◌≤◌, ◌&&◌, nat_le, nat_lt, Bool, true, false, cond, List, get_or, length, slice_index, refl, sym, ap, ◌∙◌, arith, true≢false}
use Rattle.chi_fields.specs.declared.kind.Kind.{Kind}
use Rattle.chi_fields.specs.declared.kind.Kind.TheVariants.{Read, Write, Store, Load, Swap, Compare}
use Rattle.chi_fields.specs.Access.{IsLawful, Access, lane_of}
use Rattle.chi_lanes.specs.declared.reply.Reply.TheVariants.{CompData}
use Rattle.chi_lanes.specs.After.{after, after_as, answer, answer_as, old, same_bytes}
use Rattle.chi_lanes.specs.Bytes.{little, little_bytes}
use Rattle.chi_lanes.specs.Combination.{combine}
use Rattle.chi_lanes.specs.Memory.{Memory, IsMemory, bytes_from, granule_start, with_bytes, with_enabled, word_at}
use Rattle.chi_lanes.specs.Packet.{in_lanes, sent, swap_value}
use Rattle.chi_lanes.proofs.MemoryLemmas.{bytes_from-same, get_or-bytes_from, little_bytes-word_at}
use Rattle.chi_lanes.proofs.Operands.{placed}

-- both memories have the same n bytes from an address on
abbrev pub Same : ℕ → ℕ → Memory → Memory → Type 0
Same start n m k = (x : ℕ) → start ≤ x → x < start + n → m x ≡ k x

-- memories of the same word have the same bytes there
pub agree : (m k : Memory) (start : ℕ) → IsMemory m → IsMemory k → word_at m start ≡ word_at k start → Same start 8 m k
agree m k start is_m is_k same x above below =
    let i : ℕ = x - start in
    let at : start + i ≡ x = omega arith in
    let inside : i < 8 = omega arith in
    let run : bytes_from m start 8 ≡ bytes_from k start 8 =
    sym (little_bytes-word_at m is_m start) ∙ (ap (little_bytes 8) same ∙ little_bytes-word_at k is_k start) in
    ap m (sym at) ∙ (sym (get_or-bytes_from m start 8 i inside) ∙ (ap (λ bs. get_or bs i 0) run ∙ (get_or-bytes_from k start 8 i inside ∙ ap k at)))

-- and memories of the same bytes the same word
pub word_of_same : (m k : Memory) (start : ℕ) → Same start 8 m k → word_at m start ≡ word_at k start
unfolding word_at
word_of_same m k start same = ap little (bytes_from-same m k start 8 same)

-- an operand lies in its granule
pub within_granule : (o : Access) (m k : Memory) → IsLawful o → Same (granule_start o.addr) 8 m k → Same o.addr o.len m k
within_granule o m k lawful same x above below =
    let place = placed o.addr o.len lawful.part lawful.aligned in
    let low : granule_start o.addr ≤ x = omega (arith, place.at) in
    let high : x < granule_start o.addr + 8 = omega (arith, place.at, place.room) in
    same x low high

pub old_of_same : (o : Access) (m k : Memory) → IsLawful o → Same (granule_start o.addr) 8 m k → old o m ≡ old o k
old_of_same o m k lawful same = bytes_from-same m k o.addr o.len (within_granule o m k lawful same)

-- the reply is of the old bytes
pub answer_as_of_old : (kind : Kind) (o : Access) (m k : Memory) → old o m ≡ old o k → answer_as kind o m ≡ answer_as kind o k
answer_as_of_old Read o m k same = ap (λ bs. CompData (in_lanes (lane_of o.addr) bs)) same
answer_as_of_old Write o m k same = refl
answer_as_of_old (Store op) o m k same = refl
answer_as_of_old (Load op) o m k same = ap (λ bs. CompData (in_lanes (lane_of o.addr) bs)) same
answer_as_of_old Swap o m k same = ap (λ bs. CompData (in_lanes (lane_of o.addr) bs)) same
answer_as_of_old Compare o m k same = ap (λ bs. CompData (in_lanes (lane_of o.addr) bs)) same

pub answer_of_same : (o : Access) (m k : Memory) → IsLawful o → Same (granule_start o.addr) 8 m k → answer o m ≡ answer o k
answer_of_same o m k lawful same = answer_as_of_old o.kind o m k (old_of_same o m k lawful same)

-- a byte after the same bytes were written to both
pub written_byte : (m k : Memory) (addr : ℕ) (bs cs : List ℕ) (x : ℕ) → m x ≡ k x → bs ≡ cs → with_bytes m addr bs x ≡ with_bytes k addr cs x
unfolding with_bytes
written_byte m k addr bs cs x byte same =
    λ i. cond (nat_le addr x && nat_lt x (addr + length (same i))) (slice_index (same i) (x - addr)) (byte i)

enabled_byte : (lanes : List ℕ) (enables : ℕ) (m k : Memory) (addr n x : ℕ) → m x ≡ k x
    → with_enabled lanes enables m addr n x ≡ with_enabled lanes enables k addr n x
unfolding with_enabled
enabled_byte lanes enables m k addr n x byte = λ i. with_enabled lanes enables (λ _. byte i) addr n x

-- a byte after the operation, that was the same in both memories
pub after_as_byte : (kind : Kind) (o : Access) (m k : Memory) (x : ℕ) → old o m ≡ old o k → m x ≡ k x → after_as kind o m x ≡ after_as kind o k x
after_as_byte Read o m k x same byte = byte
after_as_byte Write o m k x same byte = enabled_byte o.lanes o.enables m k o.addr o.len x byte
after_as_byte (Store op) o m k x same byte =
    written_byte m k o.addr _ _ x byte (ap (λ bs. combine op o.endian bs (sent o.lanes (lane_of o.addr) o.len)) same)
after_as_byte (Load op) o m k x same byte =
    written_byte m k o.addr _ _ x byte (ap (λ bs. combine op o.endian bs (sent o.lanes (lane_of o.addr) o.len)) same)
after_as_byte Swap o m k x same byte = written_byte m k o.addr _ _ x byte refl
after_as_byte Compare o m k x same byte =
    by_test (same_bytes (old o m) compared) (same_bytes (old o k) compared) (ap (λ bs. same_bytes bs compared) same)
  where
    compared : List ℕ
    compared = sent o.lanes (lane_of o.addr) o.len

    swapped : List ℕ
    swapped = swap_value o.lanes (lane_of o.addr) o.len

    by_test : (b c : Bool) → b ≡ c → cond b (with_bytes m o.addr swapped) m x ≡ cond c (with_bytes k o.addr swapped) k x
    by_test true true e = written_byte m k o.addr swapped swapped x byte refl
    by_test true false e = absurd (true≢false e)
    by_test false true e = absurd (true≢false (sym e))
    by_test false false e = byte

-- the word after the operation
pub after_of_same : (o : Access) (m k : Memory) → IsLawful o → Same (granule_start o.addr) 8 m k
    → word_at (after o m) (granule_start o.addr) ≡ word_at (after o k) (granule_start o.addr)
after_of_same o m k lawful same =
    word_of_same (after o m) (after o k) (granule_start o.addr)
    (λ x above below. after_as_byte o.kind o m k x (old_of_same o m k lawful same) (same x above below))
