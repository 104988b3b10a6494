-- where a search begins
use Rattle.std.proofs.Common.{◌≡◌, ℕ, zero, suc, ◌-◌, ◌/◌, ◌%◌, ◌==◌, nat_le, nat_lt, Bool, true, false, ◌&&◌, List, [], ◌∷◌, length, slice_index, Option, refl, sym, ap, ◌∙◌, arith, lt-ltb}
use Rattle.std.proofs.lemmas.Bool.Decides.{nat_tests}
use Rattle.std.proofs.lemmas.Nat.Bits.{bit_at-zero}
use Rattle.std.specs.Int.{bit_at}
use Rattle.chi_trace.specs.declared.operation.Operation.{Operation}
use Rattle.chi_trace.specs.Explains.{is_place}
use Rattle.chi_trace.specs.Granules.{Finishes}
use Rattle.chi_search.specs.Positions.{IsReady, has_bit, is_left, is_unsettled, start}
use Rattle.chi_search.proofs.Orders.{stays}

none_settled : (k : ℕ) → has_bit (0 ∷ []) k ≡ false
none_settled k = ap (λ w. bit_at w (k % 64) == 1) (word (k / 64)) ∙ ap (λ b. b == 1) (bit_at-zero (k % 64))
  where
    word : (i : ℕ) → slice_index (0 ∷ []) i ≡ 0
    word zero = refl
    word (suc i) = refl

pub unsettled_at_start : (w i : ℕ) → is_unsettled (start w) i ≡ true
unsettled_at_start w i = let from : nat_le 0 i ≡ true = grind (arith, nat_tests) in rw (none_settled (i - 0)) (rw from refl)

pub left_at_start : (n w i : ℕ) → is_left n (start w) i ≡ nat_lt i n
left_at_start n w i = ap (λ b. nat_lt i n && b) (unsettled_at_start w i) ∙ by_test (nat_lt i n)
  where
    by_test : (b : Bool) → (b && true) ≡ b
    by_test true = refl
    by_test false = refl

pub ready_at_start : (n w : ℕ) → IsReady n (start w)
ready_at_start n w = record {
  within = omega arith;
  left = λ some. left_at_start n w 0 ∙ lt-ltb 0 n some;
  later = λ j past. unsettled_at_start w j;
}

pub from_start : (ops : List Operation) (w : ℕ) (final_word : Option ℕ) (x : List ℕ) → Finishes ops (is_left (length ops) (start w)) w final_word x
    → Finishes ops (is_place ops) w final_word x
from_start ops w final_word x c = stays ops (is_left (length ops) (start w)) (is_place ops) w final_word x (left_at_start (length ops) w) c

pub at_start : (ops : List Operation) (w : ℕ) (final_word : Option ℕ) (x : List ℕ) → Finishes ops (is_place ops) w final_word x
    → Finishes ops (is_left (length ops) (start w)) w final_word x
at_start ops w final_word x c = stays ops (is_place ops) (is_left (length ops) (start w)) w final_word x (λ i. sym (left_at_start (length ops) w i)) c
