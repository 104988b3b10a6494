-- the order in which operations stand
use Rattle.std.proofs.Common.{◌≡◌, ℕ, zero, suc, ◌+◌, ◌<◌, ◌≤◌, ◌==◌, Bool, true, false, All, refl, sym, ap, ◌∙◌, arith, eqb-true}
use Rattle.std.proofs.lemmas.Bool.Decides.{nat_tests}
use Rattle.std.proofs.lemmas.List.Elements.{All-cons, All-nil}
use Rattle.std.specs.List.{range_with_len}
use Rattle.std.specs.Prelude.{nat_lt}
use Rattle.chi_history.specs.History.{one_if}
use Rattle.chi_trace.specs.Explains.{times_in}

-- what is so of each number of a range
pub all_of_range : (P : ℕ → Type 0) (a n : ℕ) → ((j : ℕ) → a ≤ j → j < a + n → P j) → All P (range_with_len a n)
all_of_range P a zero each = All-nil P
all_of_range P a (suc n) each =
    All-cons P a (range_with_len (a + 1) n) (each a (omega arith) (omega arith)) (all_of_range P (a + 1) n (λ j above below. each j (omega arith) (omega arith)))

-- a number before a range does not stand in it
none_before : (a n i : ℕ) → i < a → times_in (range_with_len a n) i ≡ 0
unfolding times_in
none_before a zero i before = refl
none_before a (suc n) i before =
    let rest = none_before (a + 1) n i (omega arith) in
    by_test (a == i) refl rest
  where
    by_test : (b : Bool) → (a == i) ≡ b → times_in (range_with_len (a + 1) n) i ≡ 0 → one_if b + times_in (range_with_len (a + 1) n) i ≡ 0
    by_test true same rest = let is : a ≡ i = eqb-true a i same in absurd (omega (arith, is, before))
    by_test false other rest = omega (arith, rest)

-- a number stands in a range once, or it is past it
once_in : (a n i : ℕ) → a ≤ i → times_in (range_with_len a n) i ≡ one_if (nat_lt i (a + n))
unfolding times_in
once_in a zero i above = grind (arith, nat_tests)
once_in a (suc n) i above = by_test (a == i) refl (once_in (a + 1) n i)
  where
    later : (a == i) ≡ false → a + 1 ≤ i
    later other = grind (arith, nat_tests)

    by_test : (b : Bool) → (a == i) ≡ b → (a + 1 ≤ i → times_in (range_with_len (a + 1) n) i ≡ one_if (nat_lt i (a + 1 + n)))
        → one_if b + times_in (range_with_len (a + 1) n) i ≡ one_if (nat_lt i (a + suc n))
    by_test true same rest =
        let is : a ≡ i = eqb-true a i same in
        let none = none_before (a + 1) n i (omega (arith, is)) in
        let within : nat_lt i (a + suc n) ≡ true = grind (arith, nat_tests) in
        ap (λ k. 1 + k) none ∙ sym (ap one_if within)
    by_test false other rest =
        let end : a + 1 + n ≡ a + suc n = omega arith in
        omega (arith, rest (later other), ap (λ k. one_if (nat_lt i k)) end)

-- so each number below a length stands once in the order of all
pub once_in_order : (n i : ℕ) → times_in (range_with_len 0 n) i ≡ one_if (nat_lt i n)
once_in_order n i =
    let end : 0 + n ≡ n = omega arith in
    once_in 0 n i (omega arith) ∙ ap (λ k. one_if (nat_lt i k)) end
