-- a list of places while it is filled by a test
use Rattle.std.proofs.Common.{◌≡◌, ℕ, ◌+◌, ◌==◌, ◌&&◌, nat_lt, Bool, true, false, List, [], ◌∷◌, ◌++◌, refl, sym, ap, ◌∙◌, arith}
use Rattle.std.proofs.lemmas.Bool.{and_right, le-ltb}
use Rattle.chi_history.specs.History.{one_if}
use Rattle.chi_trace.specs.Explains.{times_in}
use Rattle.chi_trace.proofs.Moved.{times_in-append}
use Rattle.chi_verdict.proofs.Filling.{count_more}

-- each of the first places that a test leaves stands in the list once
abbrev pub HasFirst : (ℕ → Bool) → ℕ → List ℕ → Type 0
HasFirst left n places = (i : ℕ) → times_in places i ≡ one_if (nat_lt i n && left i)

pub first_none : (left : ℕ → Bool) (places : List ℕ) → places ≡ [] → HasFirst left 0 places
unfolding times_in
first_none left places none i = ap (λ x. times_in x i) none ∙ sym (ap (λ b. one_if (b && left i)) (le-ltb i 0 (omega arith)))

-- the next place, where it is left
pub first_more : (left : ℕ → Bool) (n : ℕ) (places after : List ℕ) → HasFirst left n places → left n ≡ true → after ≡ places ++ n ∷ [] → HasFirst left (n + 1) after
unfolding times_in
first_more left n places after each is pushed i =
    let times : times_in after i ≡ times_in places i + (one_if (n == i) + 0) = ap (λ x. times_in x i) pushed ∙ times_in-append places (n ∷ []) i in
    omega (arith, times, each i, count_more left n i, own (n == i))
  where
    own : (b : Bool) → one_if (b && left n) ≡ one_if b
    own true = ap one_if is
    own false = refl

-- and where it is not
pub first_without : (left : ℕ → Bool) (n : ℕ) (places after : List ℕ) → HasFirst left n places → left n ≡ false → after ≡ places → HasFirst left (n + 1) after
first_without left n places after each is same i =
    let times = ap (λ x. times_in x i) same in
    let none = ap one_if (and_right (n == i) (left n) is) in
    omega (arith, times, each i, count_more left n i, none)
