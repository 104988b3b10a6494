-- atomics that keep the greater or the lesser of two numbers: they write what was sent, or leave the word as it is
use Rattle.std.proofs.Common.{◌≡◌, ℕ, ◌+◌, ◌-◌, ◌%◌, ◌<◌, ◌≤◌, ◌⊎◌, nat_lt, int_lt, Bool, true, false, if◌then◌else◌, List, length, slice_index, refl, sym, ap, ◌∙◌, arith, inl, inr}
use Rattle.std.specs.Int.{bit_at}
use Rattle.std.proofs.lemmas.Bool.{cases_lt}
use Rattle.std.proofs.lemmas.Nat.Bits.{bit_at-zero, same_from_bits_below}
use Rattle.chi_fields.specs.declared.kind.Kind.{Kind}
use Rattle.chi_fields.specs.declared.kind.Kind.TheVariants.{Read, Write, Store, Load, Swap, Compare}
use Rattle.chi_fields.specs.declared.kind.Op.{Op}
use Rattle.chi_fields.specs.declared.kind.Op.TheVariants.{Add, Clr, Eor, Set, SMax, SMin, UMax, UMin}
use Rattle.chi_fields.specs.Access.{IsLawful, Access, lane_of}
use Rattle.chi_lanes.specs.After.{after_as, old}
use Rattle.chi_lanes.specs.Bytes.{number_in, signed_number_in}
use Rattle.chi_lanes.specs.Combination.{combine}
use Rattle.chi_lanes.specs.Memory.{Memory, with_bytes}
use Rattle.chi_lanes.specs.Packet.{sent}
use Rattle.chi_lanes.proofs.AfterLemmas.{length-sent}
use Rattle.chi_lanes.proofs.MemoryLemmas.{get_or-bytes_from, length-bytes_from, with_bytes-inside, with_bytes-outside}
use Rattle.chi_lanes.proofs.Operands.{placed}
use Rattle.chi_lanes.proofs.Runs.{slice_index-slice_range}
use Rattle.chi_trace.specs.declared.operation.Operation.{Operation}
use Rattle.chi_trace.specs.Granules.{next}
use Rattle.chi_trace.proofs.Agree.{written_byte}
use Rattle.chi_trace.proofs.Steps.{next-below}
use Rattle.chi_search.specs.Effects.{HasEffect, IsPick, IsPickOp}
use Rattle.chi_search.proofs.Effects.{Masks}
use Rattle.chi_search.proofs.Told.{bit_after, bit_here, byte_of, here, in_word, kept_outside}

-- one of two lists
either : (first : Bool) (xs ys : List ℕ) → ((if first then xs else ys) ≡ xs) ⊎ ((if first then xs else ys) ≡ ys)
either true xs ys = inl refl
either false xs ys = inr refl

-- the sent bytes are kept, or the old ones
kept : (op : Op) (endian : Bool) (xs ys : List ℕ) → IsPickOp op → (combine op endian xs ys ≡ ys) ⊎ (combine op endian xs ys ≡ xs)
kept Add endian xs ys pick = absurd pick
kept Clr endian xs ys pick = absurd pick
kept Eor endian xs ys pick = absurd pick
kept Set endian xs ys pick = absurd pick
kept SMax endian xs ys pick = either (int_lt (signed_number_in endian xs) (signed_number_in endian ys)) ys xs
kept SMin endian xs ys pick = either (int_lt (signed_number_in endian ys) (signed_number_in endian xs)) ys xs
kept UMax endian xs ys pick = either (nat_lt (number_in endian xs) (number_in endian ys)) ys xs
kept UMin endian xs ys pick = either (nat_lt (number_in endian ys) (number_in endian xs)) ys xs

-- the bytes of the operand are the sent ones, or each byte stays
abbrev SentOrStays : Kind → Access → Memory → Type 0
SentOrStays kind o m =
    ((x : ℕ) → o.addr ≤ x → x < o.addr + o.len → after_as kind o m x ≡ slice_index o.lanes (lane_of x)) ⊎ ((x : ℕ) → after_as kind o m x ≡ m x)

-- a byte of the operand after the sent ones were written
sent_byte : (o : Access) (m : Memory) (x : ℕ) → IsLawful o → o.addr ≤ x → x < o.addr + o.len
    → with_bytes m o.addr (sent o.lanes (lane_of o.addr) o.len) x ≡ slice_index o.lanes (lane_of x)
sent_byte o m x lawful above below =
    let place = placed o.addr o.len lawful.part lawful.aligned in
    let within : x < o.addr + length (sent o.lanes (lane_of o.addr) o.len) = rw (length-sent o lawful) below in
    let lane : lane_of o.addr + (x - o.addr) ≡ lane_of x = omega (arith, place.packet) in
    with_bytes-inside m o.addr (sent o.lanes (lane_of o.addr) o.len) x above within
    ∙ slice_index-slice_range o.lanes (lane_of o.addr) o.len (x - o.addr) (omega arith)
    ∙ ap (slice_index o.lanes) lane

-- a byte after the old ones were written
old_byte : (o : Access) (m : Memory) (x : ℕ) → with_bytes m o.addr (old o m) x ≡ m x
old_byte o m x = elim (cases_lt x o.addr) [
  | inl below ↦ with_bytes-outside m o.addr (old o m) x (inl below)
  | inr above ↦ elim (cases_lt x (o.addr + length (old o m))) [
    | inl inside ↦
        let within : x - o.addr < o.len = omega (arith, inside, length-bytes_from m o.addr o.len) in
        let at : o.addr + (x - o.addr) ≡ x = omega (arith, above) in
        with_bytes-inside m o.addr (old o m) x above inside ∙ get_or-bytes_from m o.addr o.len (x - o.addr) within ∙ ap m at
    | inr past ↦ with_bytes-outside m o.addr (old o m) x (inr past)
  ]
]

combined : (op : Op) (o : Access) (m : Memory) → IsPickOp op → IsLawful o → SentOrStays (Store op) o m
combined op o m pick lawful = elim (kept op o.endian (old o m) (sent o.lanes (lane_of o.addr) o.len) pick) [
  | inl new ↦ inl (λ x above below. written_byte m m o.addr _ _ x refl new ∙ sent_byte o m x lawful above below)
  | inr stays ↦ inr (λ x. written_byte m m o.addr _ _ x refl stays ∙ old_byte o m x)
]

picked : (kind : Kind) (o : Access) (m : Memory) → IsPick kind → IsLawful o → SentOrStays kind o m
picked Read o m pick lawful = absurd pick
picked Write o m pick lawful = absurd pick
picked (Store op) o m pick lawful = combined op o m pick lawful
picked (Load op) o m pick lawful = combined op o m pick lawful
picked Swap o m pick lawful = absurd pick
picked Compare o m pick lawful = absurd pick

-- the effect of such an atomic
pub pick : (op : Operation) (left mask : ℕ) → IsLawful op.access → IsPick op.access.kind → Masks op mask
    → ((k : ℕ) → k < 64 → bit_at left k ≡ bit_at (slice_index op.access.lanes (lane_of (byte_of op k))) (k % 8))
    → HasEffect op (record { found = 0; found_mask = 0; changed_mask = mask; left = left; left_mask = mask; may_stay = true })
pick op left mask lawful is_pick masks bits = record {
  finds = λ w below fits k one. absurd (omega (arith, one, bit_at-zero k));
  keeps = λ w below fits k within zero. kept_outside op lawful w k below within (λ inside. absurd (omega (arith, zero, (masks k).1 inside)));
  leaves = λ w below fits. elim (picked op.access.kind op.access (here op w) is_pick lawful) [
    | inl new ↦ inl (λ k one.
        let inside = (masks k).0 one in
        let within : k < 64 = in_word op.access k lawful inside in
        bits k within ∙ ap (λ b. bit_at b (k % 8)) (sym (new (byte_of op k) inside.0 inside.1)) ∙ sym (bit_after op w k lawful within))
    | inr stays ↦ inr (
      refl,
      same_from_bits_below 64 (next op w) w (next-below op w lawful) below (λ k within.
          bit_after op w k lawful within ∙ ap (λ b. bit_at b (k % 8)) (stays (byte_of op k)) ∙ sym (bit_here op w k below within)),
    )
  ];
}
