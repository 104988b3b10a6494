-- words that have the same operand: an operation fits both, or neither, and leaves the same operand of both
use Rattle.std.proofs.Common.{◌≡◌, ℕ, ◌+◌, ◌-◌, ◌*◌, ◌%◌, ◌^◌, ◌<◌, ◌≤◌, sym, ap, ◌∙◌, arith}
use Rattle.std.specs.Int.{bit_at}
use Rattle.std.proofs.lemmas.Nat.Bits.{same_from_bits_below}
use Rattle.std.proofs.lemmas.Option.{IfSome_then}
use Rattle.chi_fields.specs.Access.{IsLawful}
use Rattle.chi_lanes.specs.After.{old}
use Rattle.chi_lanes.specs.Memory.{granule_start}
use Rattle.chi_lanes.proofs.MemoryLemmas.{bytes_from-same}
use Rattle.chi_lanes.proofs.Operands.{placed}
use Rattle.chi_trace.specs.declared.operation.Operation.{Operation}
use Rattle.chi_trace.specs.Granules.{Fits, next}
use Rattle.chi_trace.proofs.Agree.{after_as_byte, answer_as_of_old}
use Rattle.chi_trace.proofs.Steps.{IsMemory-with_word}
use Rattle.chi_search.specs.Effects.{IsInOperand}
use Rattle.chi_search.proofs.Told.{bit_after, bit_here, byte_of, here, in_word}

-- a bit of a byte is one of the word
bit_of_byte : (op : Operation) (w x j k : ℕ) → w < 2 ^ 64 → k < 64 → byte_of op k ≡ x → k % 8 ≡ j → bit_at (here op w x) j ≡ bit_at w k
bit_of_byte op w x j k below within at rest =
    ap (λ y. bit_at (here op w y) j) (sym at) ∙ ap (bit_at (here op w (byte_of op k))) (sym rest) ∙ sym (bit_here op w k below within)

-- a byte of the operand is the same in both words
same_byte : (op : Operation) → IsLawful op.access → (v w : ℕ) → v < 2 ^ 64 → w < 2 ^ 64
    → ((k : ℕ) → IsInOperand op.access k → bit_at v k ≡ bit_at w k)
    → (x : ℕ) → op.access.addr ≤ x → x < op.access.addr + op.access.len → here op v x ≡ here op w x
same_byte op lawful v w v_below w_below same x above below =
    same_from_bits_below 8 (here op v x) (here op w x) (IsMemory-with_word _ v x) (IsMemory-with_word _ w x) by_bit
  where
    by_bit : (j : ℕ) → j < 8 → bit_at (here op v x) j ≡ bit_at (here op w x) j
    by_bit j of_byte =
        let place = placed op.access.addr op.access.len lawful.part lawful.aligned in
        let k : ℕ = 8 * (x - granule_start op.access.addr) + j in
        let at : byte_of op k ≡ x = omega (arith, place.at) in
        let rest : k % 8 ≡ j = omega arith in
        let within : k < 64 = omega (arith, place.at, place.room) in
        bit_of_byte op v x j k v_below within at rest
        ∙ same k (omega (arith, at), omega (arith, at))
        ∙ sym (bit_of_byte op w x j k w_below within at rest)

-- so the old bytes are
same_old : (op : Operation) → IsLawful op.access → (v w : ℕ) → v < 2 ^ 64 → w < 2 ^ 64
    → ((k : ℕ) → IsInOperand op.access k → bit_at v k ≡ bit_at w k)
    → old op.access (here op v) ≡ old op.access (here op w)
same_old op lawful v w v_below w_below same =
    bytes_from-same (here op v) (here op w) op.access.addr op.access.len (same_byte op lawful v w v_below w_below same)

-- of two words with the same operand an operation that fits one fits the other
pub same_fit : (op : Operation) → IsLawful op.access → (v w : ℕ) → v < 2 ^ 64 → w < 2 ^ 64
    → ((k : ℕ) → IsInOperand op.access k → bit_at v k ≡ bit_at w k)
    → Fits op w → Fits op v
unfolding Fits
same_fit op lawful v w v_below w_below same fits =
    IfSome_then op.reply fits
    (λ reply is. is ∙ answer_as_of_old op.access.kind op.access (here op w) (here op v) (sym (same_old op lawful v w v_below w_below same)))

-- and it leaves the same operand of both
pub same_next : (op : Operation) → IsLawful op.access → (v w : ℕ) → v < 2 ^ 64 → w < 2 ^ 64
    → ((k : ℕ) → IsInOperand op.access k → bit_at v k ≡ bit_at w k)
    → (k : ℕ) → IsInOperand op.access k → bit_at (next op v) k ≡ bit_at (next op w) k
same_next op lawful v w v_below w_below same k inside =
    let within : k < 64 = in_word op.access k lawful inside in
    bit_after op v k lawful within
    ∙ ap (λ b. bit_at b (k % 8)) (after_as_byte op.access.kind op.access (here op v) (here op w) (byte_of op k)
    (same_old op lawful v w v_below w_below same) (same_byte op lawful v w v_below w_below same (byte_of op k) inside.0 inside.1))
    ∙ sym (bit_after op w k lawful within)
