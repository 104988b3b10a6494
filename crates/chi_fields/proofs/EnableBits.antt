-- byte enables: their bits, and the arithmetic that says the same
use Rattle.std.proofs.Common.{◌≡◌, ℕ, zero, suc, ◌+◌, ◌-◌, ◌*◌, ◌/◌, ◌%◌, ◌^◌, ◌<◌, ◌≤◌, ◌==◌, ◌&&◌, ◌||◌, ◌⊎◌, nat_le, nat_lt, Bool, true, false, if◌then◌else◌, refl, sym, ap, ◌∙◌, arith, inl, inr, eqb-true, eq-eqb, lt-ltb, le-ltb, mod-lt, mod-eq_of_lt, pow_pos, pow-add, true≢false}
use Rattle.std.proofs.Math.Nat.{mul_comm, mul-sub}
use Rattle.std.proofs.Math.Pow.{pow_mono}
use Rattle.std.proofs.lemmas.Bool.{and_from, and_left, and_parts, and_right, cases_eq, cases_lt, false_from_ne_true, le-leb, leb-true, lt-leb, ltb-true, or_cases, or_left, or_right}
use Rattle.std.proofs.lemmas.Nat.{one_shl}
use Rattle.std.proofs.lemmas.Nat.Bits.{bit_at-lt, bit_at-zero, bit_at_above, bit_at_cat_low, bit_at_mask_above, bit_at_mask_below, bit_at_mask_inside, same_from_bits, same_from_bits_below}
use Rattle.std.specs.Int.{bit_at}
use Rattle.std.specs.List.{list_all, range_with_len}
use Rattle.chi_fields.specs.Access.{IsLen, each_lane, enables_exactly, enables_within, is_among}

-- a test that passes at each number of a range passes at any one of them
passes_at : (test : ℕ → Bool) (a n : ℕ) → list_all test (range_with_len a n) ≡ true → (i : ℕ) → a ≤ i → i < a + n → test i ≡ true
passes_at test a zero all i above under = absurd (omega arith)
passes_at test a (suc n) all i above under =
    let parts = and_parts (test a) (list_all test (range_with_len (a + 1) n)) all in
    elim (cases_lt a i) [
      | inl later ↦ passes_at test (a + 1) n parts.1 i (omega arith) (omega arith)
      | inr here ↦ let same : i ≡ a = omega arith in rw same parts.0
    ]

-- and the other way round
passes_all : (test : ℕ → Bool) (a n : ℕ) → ((i : ℕ) → a ≤ i → i < a + n → test i ≡ true) → list_all test (range_with_len a n) ≡ true
passes_all test a zero each = refl
passes_all test a (suc n) each =
    and_from (test a) (list_all test (range_with_len (a + 1) n)) (each a (omega arith) (omega arith))
    (passes_all test (a + 1) n (λ i above under. each i (omega arith) (omega arith)))

-- tests that say the same are equal
same_test : (a b : Bool) → (a ≡ true → b ≡ true) → (b ≡ true → a ≡ true) → a ≡ b
same_test true b there back = sym (there refl)
same_test false b there back = sym (false_from_ne_true b (λ e. true≢false (sym (back e))))

-- a lane that is one of n from a first one on
among : (first n i : ℕ) → first ≤ i → i < first + n → is_among first n i ≡ true
among first n i above under = and_from _ _ (le-leb first i above) (lt-ltb i (first + n) under)

-- a lane below them
below : (first n i : ℕ) → i < first → is_among first n i ≡ false
below first n i under = and_left _ (nat_lt i (first + n)) (lt-leb first i under)

-- a lane above them
above : (first n i : ℕ) → first + n ≤ i → is_among first n i ≡ false
above first n i over = and_right (nat_le first i) _ (le-ltb i (first + n) over)

-- a run of n ones from a first bit on
run_of_ones : (first n : ℕ) → (2 ^ n - 1) * 2 ^ first ≡ 2 ^ (first + n) - 2 ^ first
run_of_ones first n = mul_comm (2 ^ n - 1) (2 ^ first) ∙ rw (pow-add 2 first n) (mul-sub (2 ^ first) (2 ^ n) 1 ∙ omega arith)

-- its bits
window_bit : (first n i : ℕ) → bit_at ((2 ^ n - 1) * 2 ^ first) i ≡ (if is_among first n i then 1 else 0)
window_bit first n i = rw (run_of_ones first n) (elim (cases_lt i first) [
  | inl under ↦ rw (below first n i under) (bit_at_mask_below first (first + n) i under)
  | inr at ↦ elim (cases_lt i (first + n)) [
    | inl inside ↦ rw (among first n i at inside) (bit_at_mask_inside first (first + n) i at inside)
    | inr over ↦ rw (above first n i over) (bit_at_mask_above first (first + n) i over)
  ]
])

-- where its lanes are the packet's, it has 16 bits
window_below : (first n : ℕ) → first + n ≤ 16 → (2 ^ n - 1) * 2 ^ first < 2 ^ 16
window_below first n room = let some : 1 ≤ 2 ^ first = pow_pos first in rw (run_of_ones first n) (omega (arith, pow_mono room))

-- byte enables of exactly these lanes are one number
enables_exactly_is : (first n enables : ℕ) → first + n ≤ 16 → enables < 2 ^ 16 → enables_exactly first n enables ≡ (enables == (2 ^ n - 1) * 2 ^ first)
unfolding enables_exactly
enables_exactly_is first n enables room fits = same_test (each_lane test) (enables == (2 ^ n - 1) * 2 ^ first) there back
  where
    test : ℕ → Bool
    test i = bit_at enables i == (if is_among first n i then 1 else 0)

    there : each_lane test ≡ true → (enables == (2 ^ n - 1) * 2 ^ first) ≡ true
    there each =
        eq-eqb enables ((2 ^ n - 1) * 2 ^ first)
        (same_from_bits_below 16 enables ((2 ^ n - 1) * 2 ^ first) fits (window_below first n room)
        (λ i inside. eqb-true (bit_at enables i) (if is_among first n i then 1 else 0) (passes_at test 0 16 each i (omega arith) inside) ∙ sym (window_bit first n i)))

    back : (enables == (2 ^ n - 1) * 2 ^ first) ≡ true → each_lane test ≡ true
    back same =
        passes_all test 0 16
        (λ i at inside. eq-eqb (bit_at enables i) (if is_among first n i then 1 else 0)
        (ap (λ e. bit_at e i) (eqb-true enables ((2 ^ n - 1) * 2 ^ first) same) ∙ window_bit first n i))

-- byte enables within these lanes, by their bits
pub enabled_lane : (first n enables : ℕ) → enables_within first n enables ≡ true → (i : ℕ) → i < 16 → bit_at enables i ≡ 1 → (first ≤ i) × (i < first + n)
unfolding enables_within
enabled_lane first n enables each i inside set =
    elim (or_cases (bit_at enables i == 0) (is_among first n i) (passes_at (λ j. bit_at enables j == 0 || is_among first n j) 0 16 each i (omega arith) inside)) [
      | inl none ↦ absurd (let zero_bit : bit_at enables i ≡ 0 = eqb-true (bit_at enables i) 0 none in omega arith)
      | inr lane ↦
          let parts = and_parts (nat_le first i) (nat_lt i (first + n)) lane in
          (leb-true first i parts.0, ltb-true i (first + n) parts.1)
    ]

-- a bit outside these lanes is 0
outside : (first n enables : ℕ) → enables < 2 ^ 16 → enables_within first n enables ≡ true → (i : ℕ) → (i < first) ⊎ (first + n ≤ i) → bit_at enables i ≡ 0
outside first n enables fits each i out = elim (cases_lt i 16) [
  | inl inside ↦ elim (cases_eq (bit_at enables i) 1) [
    | inl set ↦
        let lane = enabled_lane first n enables each i inside set in
        elim out [
          | inl under ↦ absurd (omega (arith, lane.0))
          | inr over ↦ absurd (omega (arith, lane.1))
        ]
    | inr off ↦ let bit : bit_at enables i < 2 = bit_at-lt enables i in omega arith
  ]
  | inr past ↦ bit_at_above enables 16 i fits past
]

-- the low bits of a number
low_bit : (n k i : ℕ) → i < k → bit_at (n % 2 ^ k) i ≡ bit_at n i
low_bit n k i inside =
    let whole : n / 2 ^ k * 2 ^ k + n % 2 ^ k ≡ n = omega (arith, pow_pos k) in
    sym (bit_at_cat_low (n / 2 ^ k) k (n % 2 ^ k) i inside) ∙ ap (λ e. bit_at e i) whole

-- byte enables within these lanes are a multiple of one number and below another
enables_within_is : (first n enables : ℕ) → enables < 2 ^ 16 → enables_within first n enables ≡ (enables % 2 ^ first == 0 && nat_lt enables (2 ^ (first + n)))
unfolding enables_within
enables_within_is first n enables fits =
    same_test (enables_within first n enables) (enables % 2 ^ first == 0 && nat_lt enables (2 ^ (first + n))) there back
  where
    there : enables_within first n enables ≡ true → (enables % 2 ^ first == 0 && nat_lt enables (2 ^ (first + n))) ≡ true
    there each =
        let low : enables % 2 ^ first ≡ 0 =
        same_from_bits_below first (enables % 2 ^ first) 0 (mod-lt enables (pow_pos first)) (pow_pos first)
        (λ i under. low_bit enables first i under ∙ (outside first n enables fits each i (inl under) ∙ sym (bit_at-zero i))) in
        let cut : enables ≡ enables % 2 ^ (first + n) =
        same_from_bits enables (enables % 2 ^ (first + n)) (λ i. elim (cases_lt i (first + n)) [
          | inl under ↦ sym (low_bit enables (first + n) i under)
          | inr over ↦
              outside first n enables fits each i (inr over)
              ∙ sym (bit_at_above (enables % 2 ^ (first + n)) (first + n) i (mod-lt enables (pow_pos (first + n))) over)
        ]) in
        let high : enables < 2 ^ (first + n) = let bound : enables % 2 ^ (first + n) < 2 ^ (first + n) = mod-lt enables (pow_pos (first + n)) in omega arith in
        and_from (enables % 2 ^ first == 0) (nat_lt enables (2 ^ (first + n))) (eq-eqb (enables % 2 ^ first) 0 low) (lt-ltb enables (2 ^ (first + n)) high)

    back : (enables % 2 ^ first == 0 && nat_lt enables (2 ^ (first + n))) ≡ true → enables_within first n enables ≡ true
    back both =
        let parts = and_parts (enables % 2 ^ first == 0) (nat_lt enables (2 ^ (first + n))) both in
        let none : enables % 2 ^ first ≡ 0 = eqb-true (enables % 2 ^ first) 0 parts.0 in
        passes_all (λ i. bit_at enables i == 0 || is_among first n i) 0 16 (λ i at inside. elim (cases_lt i first) [
          | inl under ↦
              or_left (bit_at enables i == 0) (is_among first n i)
              (eq-eqb (bit_at enables i) 0 (sym (low_bit enables first i under) ∙ (ap (λ e. bit_at e i) none ∙ bit_at-zero i)))
          | inr at ↦ elim (cases_lt i (first + n)) [
            | inl lane ↦ or_right (bit_at enables i == 0) (is_among first n i) (among first n i at lane)
            | inr over ↦
                or_left (bit_at enables i == 0) (is_among first n i)
                (eq-eqb (bit_at enables i) 0 (bit_at_above enables (first + n) i (ltb-true enables (2 ^ (first + n)) parts.1) over))
          ]
        ])

-- the window of two operands lies in the packet
pub window_within : (lane len : ℕ) → IsLen len → lane < 16 → lane - lane % (2 * len) + 2 * len ≤ 16
window_within lane len part inside = elim part [
  | inl one ↦ rw one (omega arith)
  | inr (inl two) ↦ rw two (omega arith)
  | inr (inr (inl four)) ↦ rw four (omega arith)
  | inr (inr (inr eight)) ↦ rw eight (omega arith)
]

-- so does an operand
operand_within : (lane len : ℕ) → IsLen len → lane % len ≡ 0 → lane < 16 → lane + len ≤ 16
operand_within lane len part aligned inside = elim part [
  | inl one ↦ rw one (omega arith)
  | inr (inl two) ↦ rw two (let e = rw two at aligned in omega arith)
  | inr (inr (inl four)) ↦ rw four (let e = rw four at aligned in omega arith)
  | inr (inr (inr eight)) ↦ rw eight (let e = rw eight at aligned in omega arith)
]

-- a bit of at most 16, as 32 bits have it
one_at : (k : ℕ) → k ≤ 16 → 1 * 2 ^ k % 2 ^ 32 ≡ 2 ^ k
one_at k most = one_shl k 32 (omega arith)

-- the number of exactly these lanes, as 32 bits have it
exactly_at : (first n : ℕ) → first + n ≤ 16 → (1 * 2 ^ n % 2 ^ 32 - 1) * 2 ^ first % 2 ^ 32 ≡ (2 ^ n - 1) * 2 ^ first
exactly_at first n room = rw (one_at n (omega arith)) (mod-eq_of_lt (let bound : (2 ^ n - 1) * 2 ^ first < 2 ^ 16 = window_below first n room in omega arith))

-- the byte enables of an operand's lanes, as they are computed
pub exactly_operand : (len lane enables : ℕ) → IsLen len → lane % len ≡ 0 → lane < 16 → enables < 2 ^ 16
    → enables_exactly lane len enables ≡ (enables == (1 * 2 ^ len % 2 ^ 32 - 1) * 2 ^ lane % 2 ^ 32)
exactly_operand len lane enables part aligned inside fits =
    let room : lane + len ≤ 16 = operand_within lane len part aligned inside in
    rw (exactly_at lane len room) (enables_exactly_is lane len enables room fits)

-- those of a window of two operands
pub exactly_window : (len lane enables : ℕ) → IsLen len → lane < 16 → enables < 2 ^ 16
    → enables_exactly (lane - lane % (2 * len)) (2 * len) enables ≡ (enables == (1 * 2 ^ (2 * len) % 2 ^ 32 - 1) * 2 ^ (lane - lane % (2 * len)) % 2 ^ 32)
exactly_window len lane enables part inside fits =
    let room : lane - lane % (2 * len) + 2 * len ≤ 16 = window_within lane len part inside in
    rw (exactly_at (lane - lane % (2 * len)) (2 * len) room) (enables_exactly_is (lane - lane % (2 * len)) (2 * len) enables room fits)

-- the byte enables within an operand's lanes, as they are computed
pub within_operand : (len lane enables : ℕ) → IsLen len → lane % len ≡ 0 → lane < 16 → enables < 2 ^ 16
    → enables_within lane len enables ≡ (enables % (1 * 2 ^ lane % 2 ^ 32) == 0 && nat_lt enables (1 * 2 ^ (lane + len) % 2 ^ 32))
within_operand len lane enables part aligned inside fits =
    let room : lane + len ≤ 16 = operand_within lane len part aligned inside in
    rw (one_at lane (omega arith), one_at (lane + len) room) (enables_within_is lane len enables fits)
