-- words of which a sum leaves the same in a run of bytes have the same operand there
use Rattle.std.proofs.Common.{◌≡◌, ℕ, ◌+◌, ◌-◌, ◌*◌, ◌%◌, ◌^◌, ◌<◌, ◌≤◌, ◌⊎◌, sym, ap, ◌∙◌, arith, inl, inr}
use Rattle.std.specs.Int.{bit_at}
use Rattle.std.proofs.lemmas.Bool.{cases_lt}
use Rattle.std.proofs.lemmas.Nat.Bits.{same_from_bits_below}
use Rattle.chi_fields.specs.Access.{IsLawful, Access}
use Rattle.chi_lanes.specs.After.{after, old}
use Rattle.chi_lanes.specs.Bytes.{number_in}
use Rattle.chi_lanes.specs.Memory.{Memory, granule_start}
use Rattle.chi_lanes.proofs.AfterLemmas.{IsMemory-after}
use Rattle.chi_lanes.proofs.Operands.{IsPlaced, placed}
use Rattle.chi_trace.specs.declared.operation.Operation.{Operation}
use Rattle.chi_trace.specs.Granules.{next}
use Rattle.chi_trace.proofs.Steps.{IsMemory-with_word}
use Rattle.chi_search.specs.Effects.{AgreeOutside, IsInOperand, IsSum}
use Rattle.chi_search.proofs.Carries.{back_digit, digit}
use Rattle.chi_search.proofs.LikeStores.{sent_by}
use Rattle.chi_search.proofs.Sums.{bit_of_byte, byte_of_sum, digit_here, digit_of_operand, outside_bit, place, place_below, place_place, run, run_zero, sum_after}
use Rattle.chi_search.proofs.Told.{bit_after, bit_here, byte_of, here, in_word}
use Rattle.chi_search.proofs.WordBits.{mask_bit}

-- a bit of a byte after the operation is one of the word that it leaves
bit_of_after : (op : Operation) (w x j k : ℕ) → IsLawful op.access → k < 64 → byte_of op k ≡ x → k % 8 ≡ j
    → bit_at (after op.access (here op w) x) j ≡ bit_at (next op w) k
bit_of_after op w x j k lawful within at rest =
    ap (λ y. bit_at (after op.access (here op w) y) j) (sym at)
    ∙ ap (bit_at (after op.access (here op w) (byte_of op k))) (sym rest)
    ∙ sym (bit_after op w k lawful within)

-- a byte of the operand after it, in a run of bytes in which the words after it agree
same_after : (op : Operation) → IsLawful op.access → (lane len v w : ℕ)
    → ((k : ℕ) → IsInOperand op.access k → bit_at (run lane len) k ≡ 1 → bit_at (next op v) k ≡ bit_at (next op w) k)
    → (x : ℕ) → op.access.addr ≤ x → x < op.access.addr + op.access.len → lane ≤ x - granule_start op.access.addr
    → x - granule_start op.access.addr < lane + len
    → after op.access (here op v) x ≡ after op.access (here op w) x
same_after op lawful lane len v w same x above below from to =
    same_from_bits_below 8 (after op.access (here op v) x) (after op.access (here op w) x)
    (IsMemory-after op.access (here op v) (IsMemory-with_word _ v) lawful x) (IsMemory-after op.access (here op w) (IsMemory-with_word _ w) lawful x) by_bit
  where
    by_bit : (j : ℕ) → j < 8 → bit_at (after op.access (here op v) x) j ≡ bit_at (after op.access (here op w) x) j
    by_bit j of_byte =
        let placing = placed op.access.addr op.access.len lawful.part lawful.aligned in
        let k : ℕ = 8 * (x - granule_start op.access.addr) + j in
        let at : byte_of op k ≡ x = omega (arith, placing.at) in
        let rest : k % 8 ≡ j = omega arith in
        let within : k < 64 = omega (arith, placing.at, placing.room) in
        bit_of_after op v x j k lawful within at rest
        ∙ same k (omega (arith, at), omega (arith, at)) ((mask_bit lane len k).1 (omega (arith, from), omega (arith, to)))
        ∙ sym (bit_of_after op w x j k lawful within at rest)

-- a byte out of the run, where the words agree there
same_here : (op : Operation) (lane len v w : ℕ) → v < 2 ^ 64 → w < 2 ^ 64 → AgreeOutside (run lane len) v w → (j : ℕ) → j < 8
    → (j < lane) ⊎ (lane + len ≤ j) → here op v (granule_start op.access.addr + j) ≡ here op w (granule_start op.access.addr + j)
same_here op lane len v w v_below w_below agree j inside outside =
    same_from_bits_below 8 (here op v (granule_start op.access.addr + j)) (here op w (granule_start op.access.addr + j))
    (IsMemory-with_word _ v (granule_start op.access.addr + j)) (IsMemory-with_word _ w (granule_start op.access.addr + j)) (λ i bit.
    sym (bit_of_byte op v j i v_below inside bit)
    ∙ agree (8 * j + i) (omega (arith, inside, bit)) (run_zero lane len (8 * j + i) (outside_bit lane len j i bit outside))
    ∙ bit_of_byte op w j i w_below inside bit)

-- the operand's number
abbrev number : Access → Memory → ℕ
number o m = number_in o.endian (old o m)

-- Words that agree out of a run of bytes have the same operand where a sum leaves the same of both in the run.
pub same_sum : (op : Operation) → IsLawful op.access → IsSum op.access.kind → (lane len v w : ℕ) → v < 2 ^ 64 → w < 2 ^ 64
    → AgreeOutside (run lane len) v w
    → ((k : ℕ) → IsInOperand op.access k → bit_at (run lane len) k ≡ 1 → bit_at (next op v) k ≡ bit_at (next op w) k)
    → (k : ℕ) → IsInOperand op.access k → bit_at v k ≡ bit_at w k
same_sum op lawful sum lane len v w v_below w_below agree same k inside =
    let within : k < 64 = in_word op.access k lawful inside in
    bit_here op v k v_below within ∙ ap (λ b. bit_at b (k % 8)) byte ∙ sym (bit_here op w k w_below within)
  where
    o : Access
    o = op.access

    placing : IsPlaced o.addr o.len
    placing = placed o.addr o.len lawful.part lawful.aligned

    byte_after : (m : Memory) (d : ℕ) → d < o.len → after o m (o.addr + place o.endian o.len d) ≡ digit (number o m + number_in o.endian (sent_by o)) d
    byte_after m d below =
        ap (λ (n : Memory). n (o.addr + place o.endian o.len d)) (sum_after o.kind o m sum) ∙ byte_of_sum o.endian m o.addr o.len (sent_by o) d below

    outside_run : (d : ℕ) → d < o.len → (o.addr % 8 + place o.endian o.len d < lane) ⊎ (lane + len ≤ o.addr % 8 + place o.endian o.len d)
        → digit (number o (here op v)) d ≡ digit (number o (here op w)) d
    outside_run d below outside =
        let room : o.addr % 8 + place o.endian o.len d < 8 = omega (arith, placing.room, place_below o.endian o.len d below) in
        digit_here op v d placing below
        ∙ same_here op lane len v w v_below w_below agree (o.addr % 8 + place o.endian o.len d) room outside
        ∙ sym (digit_here op w d placing below)

    in_run : (d : ℕ) → d < o.len → lane ≤ o.addr % 8 + place o.endian o.len d → o.addr % 8 + place o.endian o.len d < lane + len
        → digit (number o (here op v) + number_in o.endian (sent_by o)) d ≡ digit (number o (here op w) + number_in o.endian (sent_by o)) d
    in_run d below from to =
        let there : place o.endian o.len d < o.len = place_below o.endian o.len d below in
        sym (byte_after (here op v) d below)
        ∙ same_after op lawful lane len v w same (o.addr + place o.endian o.len d) (omega arith) (omega (arith, there)) (omega (arith, placing.at, from))
        (omega (arith, placing.at, to))
        ∙ byte_after (here op w) d below

    each : (d : ℕ) → d < o.len → (digit (number o (here op v)) d ≡ digit (number o (here op w)) d)
        ⊎ (digit (number o (here op v) + number_in o.endian (sent_by o)) d ≡ digit (number o (here op w) + number_in o.endian (sent_by o)) d)
    each d below = elim (cases_lt (o.addr % 8 + place o.endian o.len d) lane) [
      | inl before ↦ inl (outside_run d below (inl before))
      | inr from ↦ elim (cases_lt (o.addr % 8 + place o.endian o.len d) (lane + len)) [
        | inl to ↦ inr (in_run d below from to)
        | inr past ↦ inl (outside_run d below (inr past))
      ]
    ]

    byte : here op v (byte_of op k) ≡ here op w (byte_of op k)
    byte =
        let p : ℕ = byte_of op k - o.addr in
        let p_below : p < o.len = omega (arith, inside.0, inside.1) in
        let d : ℕ = place o.endian o.len p in
        let d_below : d < o.len = place_below o.endian o.len p p_below in
        let at : o.addr + place o.endian o.len d ≡ byte_of op k = omega (arith, place_place o.endian o.len p p_below, inside.0) in
        ap (here op v) (sym at)
        ∙ sym (digit_of_operand o.endian (here op v) o.addr o.len d (IsMemory-with_word _ v) d_below)
        ∙ back_digit (number o (here op v)) (number o (here op w)) (number_in o.endian (sent_by o)) o.len each d d_below
        ∙ digit_of_operand o.endian (here op w) o.addr o.len d (IsMemory-with_word _ w) d_below
        ∙ ap (here op w) at
