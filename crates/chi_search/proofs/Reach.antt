-- operations that cannot make the bits of a mask those of a word, by what is known of them
use Rattle.std.proofs.Common.{◌≡◌, ℕ, ◌^◌, ◌<◌, ◌==◌, not, true, min, List, length, Option, None, Some, bit_and, bit_xor, sym, ap, subst, ◌∙◌, arith, inl, inr, eq-eqb, true≢false}
use Rattle.std.specs.Int.{bit_at}
use Rattle.std.proofs.lemmas.Bool.{cases_lt}
use Rattle.std.proofs.lemmas.Nat.Bits.{bit_at-lt, bit_at-zero, bit_at_above, bit_at_and}
use Rattle.chi_trace.specs.declared.operation.Operation.{Operation}
use Rattle.chi_trace.specs.Explains.{at, is_answered}
use Rattle.chi_trace.specs.Granules.{next}
use Rattle.chi_search.specs.declared.effect.Effect.{Effect}
use Rattle.chi_search.specs.Effects.{Agree, HasEffect}
use Rattle.chi_search.specs.Makers.{IsOutOfReach, IsPart, MakesNone}
use Rattle.chi_search.specs.Positions.{Position, is_left}
use Rattle.chi_search.specs.Within.{IsDeadWithin, KeepsWithin}
use Rattle.chi_search.proofs.Runs.{dead_at_end, dead_found, only_before}
use Rattle.chi_search.proofs.WordBits.{agree_to}

-- a bit that is 1 is one of the word
pub bit_within : (mask k : ℕ) → mask < 2 ^ 64 → bit_at mask k ≡ 1 → k < 64
bit_within mask k below one = elim (cases_lt k 64) [
  | inl within ↦ within
  | inr past ↦ absurd (omega (arith, one, bit_at_above mask 64 k below past))
]

-- a number whose test is that it is not 0
pub differs : (n : ℕ) → not (n == 0) ≡ true → n ≡ 0 → ⊥
differs n some zero = true≢false (sym some ∙ ap not (eq-eqb n 0 zero))

-- it changes none of these bits
pub keeps_bits : (op : Operation) (e : Effect) (mask : ℕ) → HasEffect op e → mask < 2 ^ 64 → bit_and e.changed_mask mask ≡ 0 → KeepsWithin mask op
keeps_bits op e mask has below none w w_below fits k one =
    let bit : min (bit_at e.changed_mask k) (bit_at mask k) ≡ 0 = sym (bit_at_and e.changed_mask mask k) ∙ ap (λ n. bit_at n k) none ∙ bit_at-zero k in
    let unchanged : bit_at e.changed_mask k ≡ 0 = omega (arith, bit, one) in
    has.keeps w w_below fits k (bit_within mask k below one) unchanged

pub untouched : (op : Operation) (e : Effect) (word mask : ℕ) → HasEffect op e → mask < 2 ^ 64 → bit_and e.changed_mask mask ≡ 0
    → MakesNone op (Agree mask word)
untouched op e word mask has below none w w_below fits agree k one = agree k one ∙ keeps_bits op e mask has below none w w_below fits k one

-- it leaves another one of these bits, or what it found
pub contrary : (op : Operation) (e : Effect) (word mask : ℕ) → HasEffect op e → (bit_and (bit_xor e.left word) (bit_and e.left_mask mask) ≡ 0 → ⊥)
    → MakesNone op (Agree mask word)
contrary op e word mask has some w w_below fits agree = elim (has.leaves w w_below fits) [
  | inl leaves ↦ absurd (some (agree_to e.left word (bit_and e.left_mask mask) (same leaves)))
  | inr stays ↦ subst (Agree mask word) stays.1 agree
]
  where
    same : Agree e.left_mask e.left (next op w) → Agree (bit_and e.left_mask mask) e.left word
    same leaves k one =
        let both : min (bit_at e.left_mask k) (bit_at mask k) ≡ 1 = sym (bit_at_and e.left_mask mask k) ∙ one in
        leaves k (omega (arith, both, bit_at-lt e.left_mask k, bit_at-lt mask k))
        ∙ sym (agree k (omega (arith, both, bit_at-lt e.left_mask k, bit_at-lt mask k)))

-- the bits of two masks are bits of each
pub part_of : (m n k : ℕ) → bit_at (bit_and m n) k ≡ 1 → (bit_at m k ≡ 1) × (bit_at n k ≡ 1)
part_of m n k one =
    let both : min (bit_at m k) (bit_at n k) ≡ 1 = sym (bit_at_and m n k) ∙ one in
    (omega (arith, both, bit_at-lt m k, bit_at-lt n k), omega (arith, both, bit_at-lt m k, bit_at-lt n k))

-- a mask that keeps all bits of another one has them
pub has_part : (m bits : ℕ) → bit_and m bits ≡ bits → IsPart bits m
has_part m bits same k one =
    let kept : min (bit_at m k) (bit_at bits k) ≡ bit_at bits k = sym (bit_at_and m bits k) ∙ ap (λ n. bit_at n k) same in
    omega (arith, kept, one, bit_at-lt m k)

-- the bits of both masks are bits of the second
pub both : (m n : ℕ) → IsPart (bit_and m n) n
both m n k one = (part_of m n k one).1

-- a state is dead in the bits of a mask where what an operation must find there is out of reach
pub out_of_reach : (mask : ℕ) (ops : List Operation) (final_word : Option ℕ) (p : Position) (y : ℕ) (e : Effect) → HasEffect (at ops y) e
    → is_left (length ops) p y ≡ true
    → is_answered (at ops y) ≡ true → IsOutOfReach mask ops p (only_before (Some y)) e.found (bit_and e.found_mask mask) → IsDeadWithin mask ops final_word p
out_of_reach mask ops final_word p y e has left answered out =
    dead_found mask out.part e.found ops final_word p y (λ k one. (part_of e.found_mask mask k (out.within k one)).1) left answered
    (λ w w_below fits k one. has.finds w w_below fits k (part_of e.found_mask mask k (out.within k one)).0) out.unmade

-- or the word at the end
pub end_out_of_reach : (mask : ℕ) (ops : List Operation) (seen : ℕ) (p : Position) → IsOutOfReach mask ops p (only_before None) seen mask
    → IsDeadWithin mask ops (Some seen) p
end_out_of_reach mask ops seen p out = dead_at_end mask out.part seen ops p out.within out.unmade
