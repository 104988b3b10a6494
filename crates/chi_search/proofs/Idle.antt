-- an operation that answered the old data and left one word as it is leaves each word as it is that it fits
use Rattle.std.proofs.Common.{◌≡◌, ℕ, ◌+◌, ◌-◌, ◌^◌, ◌<◌, List, Some, ap, ◌∙◌, arith, inl, inr}
use Rattle.std.specs.Int.{bit_at}
use Rattle.std.proofs.lemmas.Bool.{cases_lt}
use Rattle.std.proofs.lemmas.Nat.Bits.{bit_at_ones, same_from_bits_below}
use Rattle.chi_fields.specs.Access.{IsLawful}
use Rattle.chi_lanes.specs.declared.reply.Reply.TheVariants.{CompData}
use Rattle.chi_trace.specs.declared.operation.Operation.{Operation}
use Rattle.chi_trace.specs.Granules.{Fits, next}
use Rattle.chi_trace.proofs.Steps.{next-below}
use Rattle.chi_search.specs.Moves.{IsIdle}
use Rattle.chi_search.specs.Within.{KeepsWithin}
use Rattle.chi_search.proofs.Told.{byte_of, kept_outside, same_found, same_left}

pub idle_data : (op : Operation) (w : ℕ) (bs : List ℕ) → IsLawful op.access → w < 2 ^ 64 → op.reply ≡ Some (CompData bs) → Fits op w → next op w ≡ w
    → IsIdle op
idle_data op w bs lawful below held fits stays v v_below v_fits = same_from_bits_below 64 (next op v) v (next-below op v lawful) v_below bit
  where
    bit : (k : ℕ) → k < 64 → bit_at (next op v) k ≡ bit_at v k
    bit k within = elim (cases_lt (byte_of op k) op.access.addr) [
      | inl before ↦ kept_outside op lawful v k v_below within (λ inside. absurd (omega (arith, before, inside.0)))
      | inr from ↦ elim (cases_lt (byte_of op k) (op.access.addr + op.access.len)) [
        | inl inside ↦
            same_left op bs lawful held v w v_fits fits k (from, inside) ∙ ap (λ n. bit_at n k) stays
            ∙ same_found op bs lawful held w v below v_below fits v_fits k (from, inside)
        | inr past ↦ kept_outside op lawful v k v_below within (λ inside. absurd (omega (arith, past, inside.1)))
      ]
    ]

-- so does one that keeps all bits of a word
pub idle_kept : (op : Operation) → IsLawful op.access → KeepsWithin (2 ^ 64 - 1) op → IsIdle op
idle_kept op lawful keeps w below fits =
    same_from_bits_below 64 (next op w) w (next-below op w lawful) below (λ k within. keeps w below fits k (bit_at_ones 64 k within))
