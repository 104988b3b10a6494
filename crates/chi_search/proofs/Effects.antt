-- what is known of operations: those whose reply has data, those that write whatever was there, and all others
use Rattle.std.proofs.Common.{◌≡◌, ℕ, ◌-◌, ◌^◌, ◌<◌, ◌⊎◌, ◌↔◌, List, Some, false, bit_xor, sym, ap, ◌∙◌, arith, inl, inr}
use Rattle.std.specs.Int.{bit_at, bit_not, w64}
use Rattle.std.proofs.lemmas.Bool.{cases_lt}
use Rattle.std.proofs.lemmas.Nat.{xor_lt}
use Rattle.std.proofs.lemmas.Nat.Bits.{bit_at-lt, bit_at-zero, bit_at_above, bit_at_not, bit_at_ones, bit_at_xor}
use Rattle.chi_fields.specs.Access.{IsLawful}
use Rattle.chi_lanes.specs.declared.reply.Reply.TheVariants.{CompData}
use Rattle.chi_trace.specs.declared.operation.Operation.{Operation}
use Rattle.chi_trace.specs.Granules.{Fits, next}
use Rattle.chi_trace.proofs.Steps.{next-below}
use Rattle.chi_search.specs.Effects.{HasEffect, IsBlind, IsInOperand}
use Rattle.chi_search.proofs.Bitwise.{blind_bit}
use Rattle.chi_search.proofs.Told.{kept_outside, same_found, same_left}

-- the mask has the bits of the operand
abbrev pub Masks : Operation → ℕ → Type 0
Masks op mask = (k : ℕ) → (bit_at mask k ≡ 1) ↔ IsInOperand op.access k

pub zero_or_one : (mask k : ℕ) → (bit_at mask k ≡ 0) ⊎ (bit_at mask k ≡ 1)
zero_or_one mask k = elim (cases_lt 0 (bit_at mask k)) [
  | inl some ↦ inr (omega (arith, some, bit_at-lt mask k))
  | inr none ↦ inl (omega (arith, none))
]

-- two bits whose exclusive or is 0 are the same
same_bit : (v w k : ℕ) → bit_at (bit_xor v w) k ≡ 0 → bit_at v k ≡ bit_at w k
same_bit v w k zero = omega (arith, sym (bit_at_xor v w k) ∙ zero, bit_at-lt v k, bit_at-lt w k)

-- of an operation that is seen to fit one word by a reply with data
pub told : (op : Operation) (bs : List ℕ) (found left mask : ℕ) → IsLawful op.access → op.reply ≡ Some (CompData bs) → found < 2 ^ 64 → Fits op found
    → left ≡ next op found → Masks op mask
    → HasEffect op (record { found = found; found_mask = mask; changed_mask = bit_xor found left; left = left; left_mask = mask; may_stay = false })
told op bs found left mask lawful held below fits leaves masks = record {
  finds = λ w w_below w_fits k one. same_found op bs lawful held found w below w_below fits w_fits k ((masks k).0 one);
  keeps = λ w w_below w_fits k within zero. elim (zero_or_one mask k) [
    | inl outside ↦ kept_outside op lawful w k w_below within (λ inside. absurd (omega (arith, outside, (masks k).1 inside)))
    | inr one ↦
        let inside = (masks k).0 one in
        same_left op bs lawful held w found w_fits fits k inside
        ∙ ap (λ n. bit_at n k) (sym leaves)
        ∙ sym (same_bit found left k zero)
        ∙ same_found op bs lawful held found w below w_below fits w_fits k inside
  ];
  leaves = λ w w_below w_fits. inl (λ k one.
      ap (λ n. bit_at n k) leaves ∙ same_left op bs lawful held found w fits w_fits k ((masks k).0 one));
}

-- of one that writes whatever was there: it leaves the same bit of 0 and of the greatest word just where it does
blind_where : (op : Operation) (least greatest written : ℕ) → IsLawful op.access → IsBlind op.access.kind → least ≡ next op 0
    → greatest ≡ next op (2 ^ 64 - 1)
    → written < 2 ^ 64 → ((k : ℕ) → k < 64 → bit_at written k ≡ 1 - bit_at (bit_xor least greatest) k)
    → HasEffect op (record { found = 0; found_mask = 0; changed_mask = written; left = least; left_mask = written; may_stay = false })
blind_where op least greatest written lawful is_blind of_least of_greatest below bits = record {
  finds = λ w w_below fits k one. absurd (omega (arith, one, bit_at-zero k));
  keeps = λ w w_below fits k within zero. elim (blind_bit op lawful is_blind k within) [
    | inl stays ↦ stays w w_below
    | inr same ↦
        let both : bit_at least k ≡ bit_at greatest k =
        ap (λ n. bit_at n k) of_least ∙ same 0 (2 ^ 64 - 1) (omega arith) (omega arith) ∙ ap (λ n. bit_at n k) (sym of_greatest) in
        absurd (omega (arith, bits k within, zero, bit_at_xor least greatest k, both))
  ];
  leaves = λ w w_below fits. inl (λ k one. elim (cases_lt k 64) [
    | inl within ↦ elim (blind_bit op lawful is_blind k within) [
      | inl stays ↦
          let low : bit_at least k ≡ bit_at 0 k = ap (λ n. bit_at n k) of_least ∙ stays 0 (omega arith) in
          let high : bit_at greatest k ≡ bit_at (2 ^ 64 - 1) k = ap (λ n. bit_at n k) of_greatest ∙ stays (2 ^ 64 - 1) (omega arith) in
          absurd (omega (arith, bits k within, one, bit_at_xor least greatest k, low, high, bit_at-zero k, bit_at_ones 64 k within))
      | inr same ↦ ap (λ n. bit_at n k) of_least ∙ same 0 w (omega arith) w_below
    ]
    | inr past ↦ absurd (omega (arith, one, bit_at_above written 64 k below past))
  ]);
}

pub blind : (op : Operation) (least greatest : ℕ) → IsLawful op.access → IsBlind op.access.kind → least ≡ next op 0 → greatest ≡ next op (2 ^ 64 - 1)
    → HasEffect op (record { found = 0; found_mask = 0; changed_mask = bit_not w64 (bit_xor least greatest); left = least; left_mask = bit_not w64 (bit_xor least greatest); may_stay = false })
blind op least greatest lawful is_blind of_least of_greatest =
    let least_below : least < 2 ^ 64 = omega (arith, of_least, next-below op 0 lawful) in
    let greatest_below : greatest < 2 ^ 64 = omega (arith, of_greatest, next-below op (2 ^ 64 - 1) lawful) in
    let below : bit_xor least greatest < 2 ^ 64 = xor_lt 64 least greatest least_below greatest_below in
    blind_where op least greatest (bit_not w64 (bit_xor least greatest)) lawful is_blind of_least of_greatest (omega arith)
    (λ k within. bit_at_not w64 (bit_xor least greatest) k below within)

-- of each operation: it changes no byte out of its operand
pub loose : (op : Operation) (mask : ℕ) → IsLawful op.access → Masks op mask
    → HasEffect op (record { found = 0; found_mask = 0; changed_mask = mask; left = 0; left_mask = 0; may_stay = false })
loose op mask lawful masks = record {
  finds = λ w below fits k one. absurd (omega (arith, one, bit_at-zero k));
  keeps = λ w below fits k within zero. kept_outside op lawful w k below within (λ inside. absurd (omega (arith, zero, (masks k).1 inside)));
  leaves = λ w below fits. inl (λ k one. absurd (omega (arith, one, bit_at-zero k)));
}
