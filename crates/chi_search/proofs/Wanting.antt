-- what operations find where they leave certain bits: by what is known of each, of an exclusive or, and of a sum
use Rattle.std.proofs.Common.{◌≡◌, ℕ, ◌-◌, ◌^◌, ◌<◌, ◌⊎◌, max, min, refl, bit_and, bit_or, bit_xor, sym, ap, ◌∙◌, arith, inl, inr}
use Rattle.std.specs.Int.{bit_at, bit_not, w64}
use Rattle.std.proofs.lemmas.Nat.{and_le_l, and_le_r, or_lt}
use Rattle.std.proofs.lemmas.Nat.Bits.{bit_at-lt, bit_at-zero, bit_at_and, bit_at_not, bit_at_ones, bit_at_or}
use Rattle.chi_fields.specs.Access.{IsLawful}
use Rattle.chi_trace.specs.declared.operation.Operation.{Operation}
use Rattle.chi_trace.specs.Granules.{next}
use Rattle.chi_search.specs.declared.effect.Effect.{Effect}
use Rattle.chi_search.specs.Effects.{Agree, AgreeOutside, HasEffect, IsEor, IsSum}
use Rattle.chi_search.specs.Makers.{IsPart, LeavesOperand, Wants}
use Rattle.chi_search.specs.Within.{IsRun}
use Rattle.chi_search.proofs.Bitwise.{back_bit}
use Rattle.chi_search.proofs.Effects.{Masks, zero_or_one}
use Rattle.chi_search.proofs.Leaving.{of_sum, out_of}
use Rattle.chi_search.proofs.Reach.{bit_within}
use Rattle.chi_search.proofs.SameSums.{same_sum}
use Rattle.chi_search.proofs.Sums.{run}
use Rattle.chi_search.proofs.Told.{kept_outside}
use Rattle.chi_search.proofs.WordBits.{agree_from}

-- a bit of one word where the mask has 1, and of the other where it has 0
picked : (mask v w k : ℕ) → mask < 2 ^ 64 → k < 64
    → bit_at (bit_or (bit_and v mask) (bit_and w (bit_not w64 mask))) k ≡ max (min (bit_at v k) (bit_at mask k)) (min (bit_at w k) (1 - bit_at mask k))
picked mask v w k below within =
    let first = bit_at_and v mask k in
    let second = bit_at_and w (bit_not w64 mask) k in
    let other = bit_at_not w64 mask k below within in
    omega (arith, bit_at_or (bit_and v mask) (bit_and w (bit_not w64 mask)) k, first, second, other)

-- so it is that of the first there, and that of the other elsewhere
pub picked_there : (mask v w k : ℕ) → mask < 2 ^ 64 → k < 64 → bit_at mask k ≡ 1
    → bit_at (bit_or (bit_and v mask) (bit_and w (bit_not w64 mask))) k ≡ bit_at v k
picked_there mask v w k below within one = omega (arith, picked mask v w k below within, one, bit_at-lt v k, bit_at-lt w k)

pub picked_elsewhere : (mask v w k : ℕ) → mask < 2 ^ 64 → k < 64 → bit_at mask k ≡ 0
    → bit_at (bit_or (bit_and v mask) (bit_and w (bit_not w64 mask))) k ≡ bit_at w k
picked_elsewhere mask v w k below within none = omega (arith, picked mask v w k below within, none, bit_at-lt v k, bit_at-lt w k)

-- the bits that are found in the mask, and those that are kept
abbrev found_or_kept : Effect → ℕ → ℕ → ℕ
found_or_kept e bits mask = bit_or (bit_and e.found_mask mask) (bit_and bits (bit_not w64 e.changed_mask))

below_64 : (e : Effect) (bits mask : ℕ) → bits < 2 ^ 64 → mask < 2 ^ 64 → found_or_kept e bits mask < 2 ^ 64
below_64 e bits mask bits_below mask_below =
    or_lt 64 (bit_and e.found_mask mask) (bit_and bits (bit_not w64 e.changed_mask)) (omega (arith, mask_below, and_le_r e.found_mask mask))
    (omega (arith, bits_below, and_le_l bits (bit_not w64 e.changed_mask)))

found_or_kept_bit : (e : Effect) (bits mask k : ℕ) → e.changed_mask < 2 ^ 64 → k < 64 → bit_at (found_or_kept e bits mask) k ≡ 1
    → ((bit_at e.found_mask k ≡ 1) × (bit_at mask k ≡ 1)) ⊎ ((bit_at bits k ≡ 1) × (bit_at e.changed_mask k ≡ 0))
found_or_kept_bit e bits mask k below within one =
    let whole = bit_at_or (bit_and e.found_mask mask) (bit_and bits (bit_not w64 e.changed_mask)) k in
    let first = bit_at_and e.found_mask mask k in
    let second = bit_at_and bits (bit_not w64 e.changed_mask) k in
    let other = bit_at_not w64 e.changed_mask k below within in
    elim (zero_or_one (bit_and e.found_mask mask) k) [
      | inr both ↦ inl (
        omega (arith, both, first, bit_at-lt e.found_mask k, bit_at-lt mask k),
        omega (arith, both, first, bit_at-lt e.found_mask k, bit_at-lt mask k),
      )
      | inl none ↦ inr (
        omega (arith, one, whole, none, second, other, bit_at-lt bits k, bit_at-lt e.changed_mask k),
        omega (arith, one, whole, none, second, other, bit_at-lt bits k, bit_at-lt e.changed_mask k),
      )
    ]

pub by_effect : (e : Effect) (word bits mask : ℕ) → e.found_mask < 2 ^ 64 → e.changed_mask < 2 ^ 64 → bits < 2 ^ 64 → mask < 2 ^ 64
    → (op : Operation) → HasEffect op e
    → (other : ℕ)
    → Wants op bits word (record {
      word = bit_or (bit_and e.found e.found_mask) (bit_and word (bit_not w64 e.found_mask));
      other = other;
      bits = found_or_kept e bits mask;
    })
by_effect e word bits mask found_below changed_below bits_below mask_below op has other w w_below fits leaves = inl (λ k one.
    let below : found_or_kept e bits mask < 2 ^ 64 = below_64 e bits mask bits_below mask_below in
    let within : k < 64 = bit_within (found_or_kept e bits mask) k below one in
    elim (zero_or_one e.found_mask k) [
      | inr found ↦ picked_there e.found_mask e.found word k found_below within found ∙ has.finds w w_below fits k found
      | inl none ↦ elim (found_or_kept_bit e bits mask k changed_below within one) [
        | inl (found, _) ↦ absurd (omega (arith, none, found))
        | inr (bit, kept) ↦
            picked_elsewhere e.found_mask e.found word k found_below within none ∙ leaves k bit ∙ has.keeps w w_below fits k within kept
      ]
    ])

pub within_mask : (e : Effect) (bits mask : ℕ) → e.changed_mask < 2 ^ 64 → bits < 2 ^ 64 → mask < 2 ^ 64 → IsPart bits mask
    → IsPart (found_or_kept e bits mask) mask
within_mask e bits mask changed_below bits_below mask_below inside k one = elim (found_or_kept_bit e bits mask k changed_below (bit_within (found_or_kept e bits mask) k (below_64 e bits mask bits_below mask_below) one) one) [
  | inl (_, there) ↦ there
  | inr (bit, _) ↦ inside k bit
]

pub by_eor : (op : Operation) (word bits found : ℕ) → IsLawful op.access → IsEor op.access.kind → word < 2 ^ 64 → bits < 2 ^ 64 → found ≡ next op word
    → (other : ℕ) → Wants op bits word (record { word = found; other = other; bits = bits })
by_eor op word bits found lawful is word_below bits_below same other w w_below fits leaves =
    inl (λ k one. ap (λ n. bit_at n k) same ∙ back_bit op lawful is word w k word_below w_below (bit_within bits k bits_below one) (leaves k one))

pub by_sum : (op : Operation) (word bits mask operand low high : ℕ) → IsLawful op.access → IsSum op.access.kind → IsRun mask → Masks op operand
    → operand < 2 ^ 64 → bits < 2 ^ 64 → mask < 2 ^ 64 → low < 2 ^ 64 → high < 2 ^ 64 → IsPart bits mask
    → bit_and (bit_and operand mask) (bit_not w64 bits) ≡ 0
    → AgreeOutside mask low 0 → LeavesOperand mask op low word → AgreeOutside mask high (2 ^ 64 - 1) → LeavesOperand mask op high word
    → Wants op bits word (record {
      word = bit_or (bit_and low operand) (bit_and word (bit_not w64 operand));
      other = bit_or (bit_and high operand) (bit_and word (bit_not w64 operand));
      bits = bits;
    })
by_sum op word bits mask operand low high lawful sum is masks operand_below bits_below mask_below low_below high_below part inside zeros of_low ones of_high w w_below fits leaves =
    elim (of_sum op mask w (next op (bit_and w mask)) (next op (bit_or w (bit_not w64 mask))) lawful sum is mask_below w_below with_ones_below with_zeros_below
    refl refl (next op w) (record { word = w; below = w_below; finds = λ k one. refl; fits = fits; leaves = λ k one. refl })) [
      | inl as_low ↦ inl (found low (bit_and w mask) low_below with_zeros_below
          (λ k within out. zeros k within out ∙ bit_at-zero k ∙ sym (omega (arith, bit_at_and w mask k, out))) of_low as_low
          (λ k one. omega (arith, bit_at_and w mask k, one, bit_at-lt w k)))
      | inr as_high ↦ inr (found high (bit_or w (bit_not w64 mask)) high_below with_ones_below
          (λ k within out. ones k within out ∙ bit_at_ones 64 k within ∙ sym (omega (arith, ones_bit k within, out, bit_at-lt w k))) of_high as_high
          (λ k one. omega (arith, ones_bit k (bit_within mask k mask_below one), one, bit_at-lt w k)))
    ]
  where
    with_zeros_below : bit_and w mask < 2 ^ 64
    with_zeros_below = omega (arith, w_below, and_le_l w mask)

    with_ones_below : bit_or w (bit_not w64 mask) < 2 ^ 64
    with_ones_below = or_lt 64 w (bit_not w64 mask) w_below (omega arith)

    ones_bit : (k : ℕ) → k < 64 → bit_at (bit_or w (bit_not w64 mask)) k ≡ max (bit_at w k) (1 - bit_at mask k)
    ones_bit k within = bit_at_or w (bit_not w64 mask) k ∙ ap (max (bit_at w k)) (bit_at_not w64 mask k mask_below within)

    as_run : (k : ℕ) → bit_at (run is.lane is.len) k ≡ bit_at mask k
    as_run k = ap (λ n. bit_at n k) (sym is.number)

    found : (c v : ℕ) → c < 2 ^ 64 → v < 2 ^ 64 → AgreeOutside mask c v → LeavesOperand mask op c word → Agree mask (next op w) (next op v) → Agree mask v w
        → Agree bits (bit_or (bit_and c operand) (bit_and word (bit_not w64 operand))) w
    found c v c_below v_below outside left same_next here k one =
        let within : k < 64 = bit_within bits k bits_below one in
        elim (zero_or_one operand k) [
          | inr there ↦
              picked_there operand c word k operand_below within there
              ∙ same_sum op lawful sum is.lane is.len c v c_below v_below (λ j below out. outside j below (sym (as_run j) ∙ out)) (λ j in_it in_run.
              let in_mask : bit_at mask j ≡ 1 = sym (as_run j) ∙ in_run in
              left j in_it in_mask
              ∙ leaves j (out_of (bit_and operand mask) bits j bits_below (bit_within mask j mask_below in_mask) inside
              (omega (arith, bit_at_and operand mask j, (masks j).1 in_it, in_mask)))
              ∙ same_next j in_mask) k ((masks k).0 there)
              ∙ here k (part k one)
          | inl elsewhere ↦
              picked_elsewhere operand c word k operand_below within elsewhere
              ∙ leaves k one
              ∙ kept_outside op lawful w k w_below within (λ in_it. absurd (omega (arith, elsewhere, (masks k).1 in_it)))
        ]

-- where a sum was seen to leave these bits
pub left_operand : (op : Operation) (word mask operand found left : ℕ) → Masks op operand → left ≡ next op found
    → bit_and (bit_xor left word) (bit_and operand mask) ≡ 0
    → LeavesOperand mask op found word
left_operand op word mask operand found left masks leaves_it same k in_it one =
    ap (λ n. bit_at n k) (sym leaves_it)
    ∙ agree_from left word (bit_and operand mask) same k (omega (arith, bit_at_and operand mask k, (masks k).1 in_it, one))
