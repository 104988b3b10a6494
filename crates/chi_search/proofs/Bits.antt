-- the bits of words, and of lists of words
use Rattle.std.proofs.Common.{◌≡◌, ℕ, suc, zero, ◌+◌, ◌-◌, ◌*◌, ◌/◌, ◌%◌, ◌^◌, ◌<◌, ◌≤◌, ◌==◌, ◌||◌, Bool, true, false, List, [], ◌∷◌, ◌++◌, length, get_or, refl, sym, ap, ◌∙◌, arith, inl, inr, length-append, set, slice_index, Some}
use Rattle.std.specs.List.{slice_get}
use Rattle.std.specs.Int.{bit_at, w64}
use Rattle.std.specs.Int.RustNames.{bit_or}
use Rattle.std.proofs.lemmas.Nat.{pow_pos, shr-shr, shr_split}
use Rattle.std.proofs.lemmas.Nat.Bits.{bit_at_above, bit_at_cat_high, bit_at_cat_low, bit_at_or, bit_at_set_other, bit_at_set_same, bit_at-zero}
use Rattle.std.proofs.lemmas.Bool.{cases_eq, cases_lt, eq-eqb, ne_eqb, or_right}
use Rattle.std.proofs.lemmas.List.{get_or-set_other, get_or-set_same, get_or_append_left, get_or_past, get_or_push}
use Rattle.std.proofs.lemmas.Option.{slice_get-get_or}
use Rattle.chi_search.specs.Positions.{has_bit}

-- a bit of a number that was shifted down
pub shifted_down : (n by k : ℕ) → bit_at (n / 2 ^ by) k ≡ bit_at n (by + k)
shifted_down n by k = ap (λ x. x % 2) (shr-shr n by k)

-- the bits below 64 stay where a number is cut to 64 bits
cut : (n k : ℕ) → k < 64 → bit_at (n % 2 ^ 64) k ≡ bit_at n k
cut n k within = sym (bit_at_cat_low (n / 2 ^ 64) 64 (n % 2 ^ 64) k within) ∙ ap (λ x. bit_at x k) (shr_split n 64)

-- a bit of a number that was shifted up, below the shift
pub shifted_below : (n by k : ℕ) → k < by → k < 64 → bit_at (n * 2 ^ by % 2 ^ 64) k ≡ 0
shifted_below n by k below within = cut (n * 2 ^ by) k within ∙ ap (λ x. bit_at x k) (sym (plus_none (n * 2 ^ by))) ∙ bit_at_cat_low n by 0 k below ∙ bit_at-zero k
  where
    plus_none : (x : ℕ) → x + 0 ≡ x
    plus_none x = omega arith

-- and from the shift on
pub shifted_above : (n by k : ℕ) → by ≤ k → k < 64 → bit_at (n * 2 ^ by % 2 ^ 64) k ≡ bit_at n (k - by)
shifted_above n by k above within = cut (n * 2 ^ by) k within ∙ ap (λ x. bit_at x k) (sym (plus_none (n * 2 ^ by))) ∙ bit_at_cat_high n by 0 k (pow_pos by) above
  where
    plus_none : (x : ℕ) → x + 0 ≡ x
    plus_none x = omega arith

-- where a bit is in a list of words
pub has_at : (words : List ℕ) (n i k : ℕ) → n ≡ 64 * i + k → k < 64 → has_bit words n ≡ (bit_at (slice_index words i) k == 1)
has_at words n i k is within =
    let word : n / 64 ≡ i = omega arith in
    let rest : n % 64 ≡ k = omega arith in
    rw (word, rest) refl

-- a bit of one word alone
pub has_one : (word k : ℕ) → k < 64 → has_bit (word ∷ []) k ≡ (bit_at word k == 1)
has_one word k within = has_at (word ∷ []) k 0 k (omega arith) within

-- a bit of the end of one word joined to the start of the next, where it is of the first
joined_low : (low high by k : ℕ) → 0 < by → by + k < 64 → bit_at (bit_or (low / 2 ^ by) (high * 2 ^ (64 - by) % 2 ^ 64)) k ≡ bit_at low (by + k)
joined_low low high by k some within =
    let first : bit_at (low / 2 ^ by) k ≡ bit_at low (by + k) = shifted_down low by k in
    let second : bit_at (high * 2 ^ (64 - by) % 2 ^ 64) k ≡ 0 = shifted_below high (64 - by) k (omega arith) (omega arith) in
    bit_at_or (low / 2 ^ by) (high * 2 ^ (64 - by) % 2 ^ 64) k ∙ rw (first, second) (omega arith)

-- and where it is of the next
joined_high : (low high by k : ℕ) → low < 2 ^ 64 → by < 64 → k < 64 → 64 ≤ by + k → bit_at (bit_or (low / 2 ^ by) (high * 2 ^ (64 - by) % 2 ^ 64)) k ≡ bit_at high (by + k - 64)
joined_high low high by k fits under within past =
    let first : bit_at (low / 2 ^ by) k ≡ 0 = shifted_down low by k ∙ bit_at_above low 64 (by + k) fits past in
    let place : k - (64 - by) ≡ by + k - 64 = omega arith in
    let second : bit_at (high * 2 ^ (64 - by) % 2 ^ 64) k ≡ bit_at high (by + k - 64) = shifted_above high (64 - by) k (omega arith) within ∙ ap (bit_at high) place in
    bit_at_or (low / 2 ^ by) (high * 2 ^ (64 - by) % 2 ^ 64) k ∙ rw (first, second) (omega arith)

-- the 64 bits from a bit of a word on, where the list has a next word
pub joined : (words : List ℕ) (low high word by : ℕ) → low < 2 ^ 64 → low ≡ slice_index words word → high ≡ slice_index words (word + 1) → 0 < by → by < 64
    → (k : ℕ) → k < 64 → has_bit (bit_or (low / 2 ^ by) (high * 2 ^ (64 - by) % 2 ^ 64) ∷ []) k ≡ has_bit words (64 * word + by + k)
joined words low high word by fits first second some under k within = has_one _ k within ∙ elim (cases_lt (by + k) 64) [
  | inl below ↦ ap (λ b. b == 1) (joined_low low high by k some below ∙ ap (λ w. bit_at w (by + k)) first) ∙ sym (has_at words (64 * word + by + k) word (by + k) (omega arith) below)
  | inr past ↦ ap (λ b. b == 1) (joined_high low high by k fits under within past ∙ ap (λ w. bit_at w (by + k - 64)) second)
      ∙ sym (has_at words (64 * word + by + k) (word + 1) (by + k - 64) (omega arith) (omega arith))
]

-- and where it has none
pub joined_last : (words : List ℕ) (low word by : ℕ) → low < 2 ^ 64 → low ≡ slice_index words word → length words ≤ word + 1 → by < 64
    → (k : ℕ) → k < 64 → has_bit (low / 2 ^ by ∷ []) k ≡ has_bit words (64 * word + by + k)
joined_last words low word by fits first none under k within = has_one _ k within ∙ elim (cases_lt (by + k) 64) [
  | inl below ↦ ap (λ b. b == 1) (shifted_down low by k ∙ ap (λ w. bit_at w (by + k)) first) ∙ sym (has_at words (64 * word + by + k) word (by + k) (omega arith) below)
  | inr past ↦
      let past_end : 0 ≡ slice_index words (word + 1) = sym (get_or_past words (word + 1) 0 none) in
      ap (λ b. b == 1) (shifted_down low by k ∙ bit_at_above low 64 (by + k) fits past ∙ sym (bit_at-zero (by + k - 64)) ∙ ap (λ w. bit_at w (by + k - 64)) past_end)
      ∙ sym (has_at words (64 * word + by + k) (word + 1) (by + k - 64) (omega arith) (omega arith))
]

-- each word of the second list has the 64 bits of the first from a place on
abbrev pub AreFrom : List ℕ → ℕ → List ℕ → Type 0
AreFrom words by to = (i : ℕ) → i < length to → (k : ℕ) → k < 64 → has_bit (slice_index to i ∷ []) k ≡ has_bit words (64 * i + by + k)

-- one word more of the second list
pub are_from_push : (words : List ℕ) (by : ℕ) (to : List ℕ) (word : ℕ) → AreFrom words by to
    → ((k : ℕ) → k < 64 → has_bit (word ∷ []) k ≡ has_bit words (64 * length to + by + k)) → AreFrom words by (to ++ word ∷ [])
are_from_push words by to word are more i within = elim (cases_lt i (length to)) [
  | inl before ↦ rw (get_or_append_left to (word ∷ []) 0 i before) (are i before)
  | inr after ↦
      let last : i ≡ length to = omega (arith, length-append to (word ∷ [])) in
      rw (get_or_push to word 0 i (sym last), last) more
]

-- a place past the words of a list has the bit 0
pub has_past : (words : List ℕ) (k : ℕ) → 64 * length words ≤ k → has_bit words k ≡ false
has_past words k past = ap (λ w. bit_at w (k % 64) == 1) (get_or_past words (k / 64) 0 (omega arith)) ∙ ap (λ b. b == 1) (bit_at-zero (k % 64))

-- with words for all of the first list, the second has its bits from the place on
pub shifted : (words : List ℕ) (by : ℕ) (to : List ℕ) → AreFrom words by to → length words ≤ length to → (k : ℕ) → has_bit to k ≡ has_bit words (by + k)
shifted words by to are all k = elim (cases_lt (k / 64) (length to)) [
  | inl before ↦
      let place : 64 * (k / 64) + by + k % 64 ≡ by + k = omega arith in
      has_at to k (k / 64) (k % 64) (omega arith) (omega arith) ∙ sym (has_one (slice_index to (k / 64)) (k % 64) (omega arith))
      ∙ are (k / 64) before (k % 64) (omega arith) ∙ ap (has_bit words) place
  | inr after ↦ has_past to k (omega arith) ∙ sym (has_past words (by + k) (omega arith))
]

-- two lists with the same words at each place, 0 past their ends, have the same bits
pub same_bits : (xs ys : List ℕ) → ((i : ℕ) → slice_index xs i ≡ slice_index ys i) → (k : ℕ) → has_bit xs k ≡ has_bit ys k
same_bits xs ys same k = ap (λ w. bit_at w (k % 64) == 1) (same (k / 64))

-- a 0 at the end changes no word
pub with_zero : (words : List ℕ) (i : ℕ) → slice_index (words ++ 0 ∷ []) i ≡ slice_index words i
with_zero words i = elim (cases_lt i (length words)) [
  | inl before ↦ get_or_append_left words (0 ∷ []) 0 i before
  | inr after ↦ elim (cases_lt (length words) i) [
    | inl past ↦ get_or_past (words ++ 0 ∷ []) i 0 (omega (arith, length-append words (0 ∷ []))) ∙ sym (get_or_past words i 0 after)
    | inr at ↦ get_or_push words 0 0 i (omega arith) ∙ sym (get_or_past words i 0 after)
  ]
]

-- the last word where it is 0
pub last_zero : (words : List ℕ) → Some 0 ≡ slice_get words (length words - 1) → (0 < length words) × (get_or words (length words - 1) 0 ≡ 0)
last_zero [] is = absurd (cc)
last_zero (word ∷ words) is =
    let there : slice_get (word ∷ words) (length (word ∷ words) - 1) ≡ Some (get_or (word ∷ words) (length (word ∷ words) - 1) 0) =
    slice_get-get_or (word ∷ words) (length (word ∷ words) - 1) 0 (omega arith) in
    (omega arith, cc)

-- where one bit of one word was set
pub has_put : (words : List ℕ) (number i n : ℕ) → i < length words → n < 64 → number ≡ 64 * i + n
    → (k : ℕ) → has_bit (set words i (bit_or (slice_index words i) (1 * 2 ^ n % 2 ^ 64))) k ≡ (has_bit words k || (k == number))
has_put words number i n within under is k = elim (cases_eq k number) [
  | inl same ↦ has_at after k i n (omega arith) under ∙ ap (λ w. bit_at w n == 1) written ∙ ap (λ b. b == 1) (bit_at_set_same w64 old n under)
      ∙ sym (or_right (has_bit words k) (k == number) (eq-eqb k number same))
  | inr other ↦ elim (cases_eq (k / 64) i) [
    | inl here ↦
        let apart : k % 64 ≡ n → ⊥ = λ e. other (omega arith) in
        has_at after k i (k % 64) (omega arith) (omega arith) ∙ ap (λ w. bit_at w (k % 64) == 1) written
        ∙ ap (λ b. b == 1) (bit_at_set_other w64 old n under (k % 64) apart) ∙ sym (has_at words k i (k % 64) (omega arith) (omega arith)) ∙ unchanged other
    | inr there ↦ ap (λ w. bit_at w (k % 64) == 1) (get_or-set_other words i (k / 64) new 0 there) ∙ unchanged other
  ]
]
  where
    old : ℕ
    old = slice_index words i

    new : ℕ
    new = bit_or old (1 * 2 ^ n % 2 ^ 64)

    after : List ℕ
    after = set words i new

    written : slice_index after i ≡ new
    written = get_or-set_same words i new 0 within

    or_false : (b : Bool) → (b || false) ≡ b
    or_false true = refl
    or_false false = refl

    unchanged : (k ≡ number → ⊥) → has_bit words k ≡ (has_bit words k || (k == number))
    unchanged other = rw (ne_eqb k number other) (sym (or_false (has_bit words k)))

-- a word after the first that is replaced
pub set_next : (first : ℕ) (words : List ℕ) (i word : ℕ) → 0 < i → set (first ∷ words) i word ≡ first ∷ set words (i - 1) word
set_next first words zero word some = absurd (omega arith)
set_next first words (suc i) word some = let e : suc i - 1 ≡ i = omega arith in rw e refl

-- a word after the first
pub get_next : (first : ℕ) (words : List ℕ) (i : ℕ) → 0 < i → slice_index (first ∷ words) i ≡ slice_index words (i - 1)
get_next first words zero some = absurd (omega arith)
get_next first words (suc i) some = let e : suc i - 1 ≡ i = omega arith in rw e refl
