-- the number of the first digits of a text, digit by digit
use Rattle.std.proofs.Common.{◌≡◌, ℕ, ◌+◌, ◌*◌, ◌^◌, ◌<◌, ◌≤◌, List, length, get_or, take, map, arith, ap, ◌∙◌, add-one}
use Rattle.std.specs.Int.Digits.{number_from_digits}
use Rattle.std.proofs.Math.Nat.{pow-suc, pow-le-pow_right}
use Rattle.std.proofs.lemmas.Int.Digits.{number_more}
use Rattle.std.proofs.lemmas.List.{get_or-map, length-map, take_all}

-- the number of the first i digits of a text, by the value of each
abbrev pub number_so_far : (ℕ → ℕ) → List ℕ → ℕ → ℕ
number_so_far f s i = number_from_digits 16 (take i (map f s))

-- a number of i digits, below 16 ^ i
pub record IsSoFar (f : ℕ → ℕ) (s : List ℕ) (i n : ℕ) : Type 0 where
  pub is : n ≡ number_so_far f s i
  pub small : n < 16 ^ i

-- one of less than 16 digits has room for one more
pub has_room : (n i : ℕ) → n < 16 ^ i → i < 16 → n < 16 ^ 15
has_room n i small few =
    let some : 0 < 16 = omega arith in
    let at_most : i ≤ 15 = omega arith in
    let wide : 16 ^ i ≤ 16 ^ 15 = pow-le-pow_right some at_most in
    omega arith

pub one_more : (f : ℕ → ℕ) (s : List ℕ) (i n d : ℕ) → i < length s → IsSoFar f s i n → d ≡ f (get_or s i 0) → d < 16 → IsSoFar f s (i + 1) (n * 16 + d)
one_more f s i n d within so_far is below = record {
  is =
      let inside : i < length (map f s) = rw length-map within in
      let more : number_so_far f s (i + 1) ≡ number_so_far f s i * 16 + get_or (map f s) i 0 = number_more 16 (map f s) i inside in
      let digit : get_or (map f s) i 0 ≡ f (get_or s i 0) = get_or-map f s i 0 0 within in
      let was : n ≡ number_so_far f s i = so_far.is in
      omega arith;
  small =
      let was = so_far.small in
      let wider : 16 ^ (i + 1) ≡ 16 ^ i * 16 = rw add-one (pow-suc 16 i) in
      omega arith;
}

-- that of all digits
pub of_all : (f : ℕ → ℕ) (s : List ℕ) (n i : ℕ) → length s ≤ i → IsSoFar f s i n → n ≡ number_from_digits 16 (map f s)
of_all f s n i all so_far =
    let enough : length (map f s) ≤ i = rw length-map all in
    so_far.is ∙ ap (λ (ds : List ℕ). number_from_digits 16 ds) (take_all i (map f s) enough)
