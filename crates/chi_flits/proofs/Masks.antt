-- the byte enables of a write's own bytes are within its operand
use Rattle.std.specs.Prelude.{◌<◌, ◌^◌, ◌%◌, ◌==◌, ◌||◌, nat_lt, min, bit_and}
use Rattle.std.specs.Int.{bit_at}
use Rattle.std.specs.List.{list_all, range_with_len}
use Rattle.std.proofs.Common.{◌≡◌, ℕ, zero, suc, ◌+◌, ◌*◌, ◌-◌, ◌≤◌, Bool, true, inl, inr, refl, ap, subst, ◌∙◌, eqb-true, eq-eqb, arith, ◌⊎◌}
use Rattle.std.proofs.lemmas.Bool.{le-ltb, or_cases, or_left, or_right}
use Rattle.std.proofs.lemmas.Nat.Bits.{bit_at_and}
use Rattle.chi_fields.specs.Access.{each_lane, enables_within, is_among}
use Rattle.chi_flits.proofs.Each.{all_at, all_of}

-- so many lanes from a first one on, as bits
abbrev pub ones_at : ℕ → ℕ → ℕ
ones_at len lane = (2 ^ len - 1) * 2 ^ lane % 2 ^ 16

-- the bits are 1 in those lanes alone
abbrev marks : ℕ → ℕ → Bool
marks len lane = nat_lt 16 (lane + len) || each_lane (λ i. bit_at (ones_at len lane) i == 0 || is_among lane len i)

marked : (size : ℕ) → size ≤ 3 → list_all (marks (2 ^ size)) (range_with_len 0 16) ≡ true
marked zero small = refl
marked (suc zero) small = refl
marked (suc (suc zero)) small = refl
marked (suc (suc (suc zero))) small = refl
marked (suc (suc (suc (suc n)))) small = absurd (omega arith)

pub within : (be size lane : ℕ) → size ≤ 3 → lane < 16 → lane + 2 ^ size ≤ 16 → enables_within lane (2 ^ size) (bit_and be (ones_at (2 ^ size) lane)) ≡ true
unfolding enables_within
within be size lane small few fits = all_of (λ i. bit_at (bit_and be (ones_at (2 ^ size) lane)) i == 0 || is_among lane (2 ^ size) i) 0 16 at_lane
  where
    mask : each_lane (λ i. bit_at (ones_at (2 ^ size) lane) i == 0 || is_among lane (2 ^ size) i) ≡ true
    mask = subst (λ b. (b || each_lane (λ i. bit_at (ones_at (2 ^ size) lane) i == 0 || is_among lane (2 ^ size) i)) ≡ true) (le-ltb 16 (lane + 2 ^ size) fits)
        (all_at (marks (2 ^ size)) 0 16 (marked size small) lane (omega arith) (omega arith))

    by_case : (i : ℕ) → ((bit_at (ones_at (2 ^ size) lane) i == 0) ≡ true) ⊎ (is_among lane (2 ^ size) i ≡ true)
        → (bit_at (bit_and be (ones_at (2 ^ size) lane)) i == 0 || is_among lane (2 ^ size) i) ≡ true
    by_case i (inl none) =
        let zero_bit = eqb-true (bit_at (ones_at (2 ^ size) lane) i) 0 none in
        or_left (bit_at (bit_and be (ones_at (2 ^ size) lane)) i == 0) (is_among lane (2 ^ size) i)
        (eq-eqb (bit_at (bit_and be (ones_at (2 ^ size) lane)) i) 0 (bit_at_and be (ones_at (2 ^ size) lane) i ∙ (ap (min (bit_at be i)) zero_bit ∙ omega arith)))
    by_case i (inr among) = or_right (bit_at (bit_and be (ones_at (2 ^ size) lane)) i == 0) (is_among lane (2 ^ size) i) among

    at_lane : (i : ℕ) → 0 ≤ i → i < 0 + 16 → (bit_at (bit_and be (ones_at (2 ^ size) lane)) i == 0 || is_among lane (2 ^ size) i) ≡ true
    at_lane i from to =
        by_case i (or_cases (bit_at (ones_at (2 ^ size) lane) i == 0) (is_among lane (2 ^ size) i)
        (all_at (λ i. bit_at (ones_at (2 ^ size) lane) i == 0 || is_among lane (2 ^ size) i) 0 16 mask i from to))
