-- what an operation may leave in the bits of a mask: by its whole operand, its effect, bit by bit, and of a sum
use Rattle.std.proofs.Common.{◌≡◌, ℕ, ◌-◌, ◌^◌, ◌<◌, ◌⊎◌, max, min, true, Option, None, Some, IfSome, bit_and, bit_or, bit_xor, refl, sym, ap, subst, ◌∙◌, arith, inl, inr}
use Rattle.std.specs.Int.{bit_at, bit_not, w64}
use Rattle.std.proofs.lemmas.Nat.Bits.{bit_at-lt, bit_at-zero, bit_at_and, bit_at_not, bit_at_or}
use Rattle.chi_fields.specs.Access.{IsLawful}
use Rattle.chi_trace.specs.declared.operation.Operation.{Operation}
use Rattle.chi_trace.specs.Granules.{Fits, next}
use Rattle.chi_search.specs.declared.effect.Effect.{Effect}
use Rattle.chi_search.specs.Effects.{Agree, HasEffect, IsBitwise, IsInOperand, IsSum}
use Rattle.chi_search.specs.Outcomes.{AreOutcomes, HasBits}
use Rattle.chi_search.specs.Within.{IsRun}
use Rattle.chi_search.proofs.Bitwise.{bitwise_bit}
use Rattle.chi_search.proofs.Effects.{Masks, zero_or_one}
use Rattle.chi_search.proofs.Operands.{same_fit, same_next}
use Rattle.chi_search.proofs.Reach.{bit_within, part_of}
use Rattle.chi_search.proofs.Sums.{run, sum_within}
use Rattle.chi_search.proofs.Told.{in_word, kept_outside}
use Rattle.chi_search.proofs.WordBits.{agree_to}

-- a bit that is out of a mask, of which none is in it
pub out_of : (m n k : ℕ) → n < 2 ^ 64 → k < 64 → bit_and m (bit_not w64 n) ≡ 0 → bit_at m k ≡ 1 → bit_at n k ≡ 1
out_of m n k below within none one =
    let both : min (bit_at m k) (bit_at (bit_not w64 n) k) ≡ 0 = sym (bit_at_and m (bit_not w64 n) k) ∙ ap (λ b. bit_at b k) none ∙ bit_at-zero k in
    omega (arith, both, one, bit_at_not w64 n k below within, bit_at-lt n k)

-- of an operation whose operand is within the mask
pub whole : (op : Operation) (mask operand v : ℕ) (one : Option ℕ) → IsLawful op.access → Masks op operand → mask < 2 ^ 64 → v < 2 ^ 64
    → bit_and operand (bit_not w64 mask) ≡ 0
    → IfSome one (λ a. a ≡ next op v) → (one ≡ None → Fits op v → ⊥) → AreOutcomes mask op v one None
whole op mask operand v one lawful masks mask_below below inside after unfit u steps = by_one one after unfit
  where
    same : (k : ℕ) → IsInOperand op.access k → bit_at v k ≡ bit_at steps.word k
    same k there = steps.finds k (out_of operand mask k mask_below (in_word op.access k lawful there) inside ((masks k).1 there))

    by_one : (one : Option ℕ) → IfSome one (λ a. a ≡ next op v) → (one ≡ None → Fits op v → ⊥) → HasBits mask u one ⊎ HasBits mask u None
    by_one None after unfit = absurd (unfit refl (same_fit op lawful v steps.word below steps.below same steps.fits))
    by_one (Some a) after unfit = inl (λ k one. steps.leaves k one ∙ bit k (bit_within mask k mask_below one) one ∙ ap (λ n. bit_at n k) (sym after))
      where
        bit : (k : ℕ) → k < 64 → bit_at mask k ≡ 1 → bit_at (next op steps.word) k ≡ bit_at (next op v) k
        bit k within one = elim (zero_or_one operand k) [
          | inl outside ↦
              let none : IsInOperand op.access k → ⊥ = λ there. omega (arith, outside, (masks k).1 there) in
              kept_outside op lawful steps.word k steps.below within none ∙ sym (steps.finds k one) ∙ sym (kept_outside op lawful v k below within none)
          | inr inside_it ↦ sym (same_next op lawful v steps.word below steps.below same k ((masks k).0 inside_it))
        ]

-- of one that leaves each bit of the mask as it was, or certain bits there
pub by_effect : (op : Operation) (e : Effect) (mask v : ℕ) (other : Option ℕ) → HasEffect op e → mask < 2 ^ 64 → e.left_mask < 2 ^ 64
    → bit_and (bit_and e.changed_mask mask) (bit_not w64 e.left_mask) ≡ 0 → (e.may_stay ≡ true → other ≡ Some v)
    → AreOutcomes mask op v (Some (bit_or (bit_and v (bit_not w64 e.left_mask)) (bit_and e.left e.left_mask))) other
by_effect op e mask v other has below left_below none stays u steps = elim (has.leaves steps.word steps.below steps.fits) [
  | inl leaves ↦ inl (λ k one. steps.leaves k one ∙ bit k (bit_within mask k below one) one leaves)
  | inr (may, same) ↦ inr (subst (HasBits mask u) (sym (stays may)) (λ k one. steps.leaves k one ∙ ap (λ n. bit_at n k) same ∙ sym (steps.finds k one)))
]
  where
    made : (k : ℕ) → k < 64
        → bit_at (bit_or (bit_and v (bit_not w64 e.left_mask)) (bit_and e.left e.left_mask)) k ≡ max (min (bit_at v k) (1 - bit_at e.left_mask k)) (min (bit_at e.left k) (bit_at e.left_mask k))
    made k within =
        bit_at_or (bit_and v (bit_not w64 e.left_mask)) (bit_and e.left e.left_mask) k
        ∙ rw (bit_at_and v (bit_not w64 e.left_mask) k, bit_at_and e.left e.left_mask k, bit_at_not w64 e.left_mask k left_below within) refl

    bit : (k : ℕ) → k < 64 → bit_at mask k ≡ 1 → Agree e.left_mask e.left (next op steps.word)
        → bit_at (next op steps.word) k ≡ bit_at (bit_or (bit_and v (bit_not w64 e.left_mask)) (bit_and e.left e.left_mask)) k
    bit k within one leaves = elim (zero_or_one e.left_mask k) [
      | inl free ↦ elim (zero_or_one (bit_and e.changed_mask mask) k) [
        | inl unchanged ↦
            let both : min (bit_at e.changed_mask k) (bit_at mask k) ≡ 0 = sym (bit_at_and e.changed_mask mask k) ∙ unchanged in
            let zero : bit_at e.changed_mask k ≡ 0 = omega (arith, both, one) in
            let kept : bit_at (next op steps.word) k ≡ bit_at v k = has.keeps steps.word steps.below steps.fits k within zero ∙ sym (steps.finds k one) in
            omega (arith, kept, made k within, free, bit_at-lt v k, bit_at-lt e.left k)
        | inr changed ↦ absurd (omega (arith, free, out_of (bit_and e.changed_mask mask) e.left_mask k left_below within none changed))
      ]
      | inr fixed ↦ omega (arith, leaves k fixed, made k within, fixed, bit_at-lt v k, bit_at-lt e.left k)
    ]

-- and finds other bits there
pub unfound : (op : Operation) (e : Effect) (mask v : ℕ) → HasEffect op e → (bit_and (bit_xor e.found v) (bit_and e.found_mask mask) ≡ 0 → ⊥)
    → AreOutcomes mask op v None None
unfound op e mask v has some u steps =
    absurd (some (agree_to e.found v (bit_and e.found_mask mask)
    (λ k one. has.finds steps.word steps.below steps.fits k (part_of e.found_mask mask k one).0 ∙ sym (steps.finds k (part_of e.found_mask mask k one).1))))

-- of one that makes each bit of that bit alone
pub by_bits : (op : Operation) (mask v after : ℕ) → IsLawful op.access → IsBitwise op.access.kind → mask < 2 ^ 64 → v < 2 ^ 64 → after ≡ next op v
    → AreOutcomes mask op v (Some after) None
by_bits op mask v after lawful bitwise mask_below below is u steps =
    inl (λ k one. steps.leaves k one
    ∙ bitwise_bit op lawful bitwise steps.word v k steps.below below (bit_within mask k mask_below one) (sym (steps.finds k one))
    ∙ ap (λ n. bit_at n k) (sym is))

-- of a sum
pub of_sum : (op : Operation) (mask v low high : ℕ) → IsLawful op.access → IsSum op.access.kind → IsRun mask → mask < 2 ^ 64 → v < 2 ^ 64
    → bit_or v (bit_not w64 mask) < 2 ^ 64
    → bit_and v mask < 2 ^ 64
    → low ≡ next op (bit_and v mask) → high ≡ next op (bit_or v (bit_not w64 mask)) → AreOutcomes mask op v (Some low) (Some high)
of_sum op mask v low high lawful sum is mask_below below high_below low_below of_low of_high u steps = elim either [
  | inl as_low ↦ inl (λ k one. steps.leaves k one ∙ to_mask (next op (bit_and v mask)) as_low k one ∙ ap (λ n. bit_at n k) (sym of_low))
  | inr as_high ↦ inr (λ k one. steps.leaves k one ∙ to_mask (next op (bit_or v (bit_not w64 mask))) as_high k one ∙ ap (λ n. bit_at n k) (sym of_high))
]
  where
    as_run : (k : ℕ) → bit_at (run is.lane is.len) k ≡ bit_at mask k
    as_run k = ap (λ n. bit_at n k) (sym is.number)

    to_mask : (w : ℕ) → Agree (run is.lane is.len) (next op steps.word) w → Agree mask (next op steps.word) w
    to_mask w agree k one = agree k (as_run k ∙ one)

    low_bit : (k : ℕ) → bit_at (bit_and v mask) k ≡ min (bit_at v k) (bit_at mask k)
    low_bit k = bit_at_and v mask k

    high_bit : (k : ℕ) → k < 64 → bit_at (bit_or v (bit_not w64 mask)) k ≡ max (bit_at v k) (1 - bit_at mask k)
    high_bit k within = bit_at_or v (bit_not w64 mask) k ∙ ap (max (bit_at v k)) (bit_at_not w64 mask k mask_below within)

    either : Agree (run is.lane is.len) (next op steps.word) (next op (bit_and v mask))
        ⊎ Agree (run is.lane is.len) (next op steps.word) (next op (bit_or v (bit_not w64 mask)))
    either = sum_within op lawful sum is.lane is.len is.some is.room steps.word (bit_and v mask) (bit_or v (bit_not w64 mask)) steps.below low_below high_below
        (λ k one. let there : bit_at mask k ≡ 1 = sym (as_run k) ∙ one in
        omega (arith, low_bit k, there, steps.finds k there, bit_at-lt v k))
        (λ k one. let there : bit_at mask k ≡ 1 = sym (as_run k) ∙ one in
        omega (arith, high_bit k (bit_within mask k mask_below there), there, steps.finds k there, bit_at-lt v k))
        (λ k within zero. let out : bit_at mask k ≡ 0 = sym (as_run k) ∙ zero in omega (arith, low_bit k, out))
        (λ k within zero. let out : bit_at mask k ≡ 0 = sym (as_run k) ∙ zero in omega (arith, high_bit k within, out, bit_at-lt v k))
