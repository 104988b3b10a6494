-- the digits of a sum to base 256, and the carries into them
use Rattle.std.proofs.Common.{◌≡◌, ℕ, zero, suc, ◌+◌, ◌-◌, ◌/◌, ◌%◌, ◌^◌, ◌<◌, ◌≤◌, ◌⊎◌, refl, sym, ap, subst, ◌∙◌, arith, inl, inr, zero-add, add-zero, add-suc, pow-suc, div-one}
use Rattle.std.proofs.lemmas.Bool.{cases_lt}
use Rattle.std.proofs.Math.Nat.{div-div-eq-div-mul, pow-zero}

-- a digit of a number, the least significant first
abbrev pub digit : ℕ → ℕ → ℕ
digit n d = n / 256 ^ d % 256

-- what is carried into a digit of a sum
unfoldable pub carry : ℕ → ℕ → ℕ → ℕ
carry n s zero = 0
carry n s (suc d) = (digit n d + digit s d + carry n s d) / 256

-- to drop one digit more
dropped_more : (x d : ℕ) → x / 256 ^ suc d ≡ x / 256 ^ d / 256
dropped_more x d = rw pow-suc (sym (div-div-eq-div-mul x (256 ^ d) 256))

-- what is left of a sum where its lowest digits are dropped
dropped : (n s d : ℕ) → (n + s) / 256 ^ d ≡ n / 256 ^ d + s / 256 ^ d + carry n s d
unfolding carry
dropped n s zero = simp (pow-zero, div-one) (omega arith)
dropped n s (suc d) =
    let rest : (n + s) / 256 ^ d ≡ n / 256 ^ d + s / 256 ^ d + carry n s d = dropped n s d in
    rw (dropped_more (n + s) d, dropped_more n d, dropped_more s d) (omega (arith, rest))

-- a digit of a sum
digit_of_sum : (n s d : ℕ) → digit (n + s) d ≡ (digit n d + digit s d + carry n s d) % 256
digit_of_sum n s d = let rest = dropped n s d in omega (arith, rest)

-- no more than 1 is carried
carry_most : (n s d : ℕ) → carry n s d ≤ 1
unfolding carry
carry_most n s zero = omega arith
carry_most n s (suc d) = let before = carry_most n s d in omega (arith, before)

-- nothing is carried over digits that are 0
carry_none : (n s a : ℕ) → ((d : ℕ) → d < a → digit n d ≡ 0) → carry n s a ≡ 0
unfolding carry
carry_none n s zero zeros = refl
carry_none n s (suc a) zeros =
    let before : carry n s a ≡ 0 = carry_none n s a (λ d below. zeros d (omega (arith, below))) in
    let here : digit n a ≡ 0 = zeros a (omega arith) in
    omega (arith, before, here)

-- over digits that are 255 as much is carried as over any others
carry_grows : (n m s a : ℕ) → ((d : ℕ) → d < a → digit m d ≡ 255) → carry n s a ≤ carry m s a
unfolding carry
carry_grows n m s zero most = omega arith
carry_grows n m s (suc a) most =
    let before : carry n s a ≤ carry m s a = carry_grows n m s a (λ d below. most d (omega (arith, below))) in
    let here : digit m a ≡ 255 = most a (omega arith) in
    omega (arith, before, here)

-- over the same digits the same is carried
carry_same : (n m s a k : ℕ) → carry n s a ≡ carry m s a → ((d : ℕ) → a ≤ d → d < a + k → digit n d ≡ digit m d)
    → carry n s (a + k) ≡ carry m s (a + k)
unfolding carry
carry_same n m s a zero same digits = rw add-zero same
carry_same n m s a (suc k) same digits =
    let before : carry n s (a + k) ≡ carry m s (a + k) = carry_same n m s a k same (λ d above below. digits d above (omega (arith, below))) in
    let here : digit n (a + k) ≡ digit m (a + k) = digits (a + k) (omega arith) (omega arith) in
    rw (add-suc, here, before) refl

-- a digit of two sums
same_digit : (n m s a i : ℕ) → carry n s a ≡ carry m s a → a ≤ i → ((d : ℕ) → a ≤ d → d ≤ i → digit n d ≡ digit m d)
    → digit (n + s) i ≡ digit (m + s) i
same_digit n m s a i same above digits =
    let place : a + (i - a) ≡ i = omega (arith, above) in
    let carried : carry n s (a + (i - a)) ≡ carry m s (a + (i - a)) =
    carry_same n m s a (i - a) same (λ d first last. digits d first (omega (arith, last, place))) in
    let into : carry n s i ≡ carry m s i = ap (carry n s) (sym place) ∙ carried ∙ ap (carry m s) place in
    let here : digit n i ≡ digit m i = digits i above (omega arith) in
    digit_of_sum n s i ∙ (λ j. (here j + digit s i + into j) % 256) ∙ sym (digit_of_sum m s i)

-- from a place on the digits of a sum are those of the sum of another number that has the same digits there
abbrev pub AddsLike : ℕ → ℕ → ℕ → ℕ → Type 0
AddsLike n m s a = (i : ℕ) → a ≤ i → ((d : ℕ) → a ≤ d → d ≤ i → digit n d ≡ digit m d) → digit (n + s) i ≡ digit (m + s) i

-- of the number that has only 0 below it, or of the one that has only 255
pub adds_like : (n low high s a : ℕ) → ((d : ℕ) → d < a → digit low d ≡ 0) → ((d : ℕ) → d < a → digit high d ≡ 255)
    → AddsLike n low s a ⊎ AddsLike n high s a
adds_like n low high s a zeros most = elim (cases_lt 0 (carry n s a)) [
  | inl some ↦
      let same : carry n s a ≡ carry high s a = omega (arith, some, carry_grows n high s a most, carry_most high s a) in
      inr (λ i above digits. same_digit n high s a i same above digits)
  | inr none ↦
      let same : carry n s a ≡ carry low s a = omega (arith, none, carry_none low s a zeros) in
      inl (λ i above digits. same_digit n low s a i same above digits)
]

-- a digit of two numbers whose lower digits are the same, and whose sums have the same digit
same_back : (n m s i : ℕ) → ((d : ℕ) → d < i → digit n d ≡ digit m d) → digit (n + s) i ≡ digit (m + s) i → digit n i ≡ digit m i
unfolding carry
same_back n m s i lower same =
    let carried : carry n s i ≡ carry m s i =
    subst (λ e. carry n s e ≡ carry m s e) (zero-add i) (carry_same n m s 0 i refl (λ e _ under. lower e (omega (arith, under)))) in
    let sums : (digit n i + digit s i + carry n s i) % 256 ≡ (digit m i + digit s i + carry m s i) % 256 =
    sym (digit_of_sum n s i) ∙ same ∙ digit_of_sum m s i in
    omega (arith, sums, carried)

-- two numbers have the same digits where each digit is the same, or that of their sums is
pub back_digit : (n m s i : ℕ) → ((d : ℕ) → d < i → (digit n d ≡ digit m d) ⊎ (digit (n + s) d ≡ digit (m + s) d)) → (d : ℕ) → d < i
    → digit n d ≡ digit m d
back_digit n m s zero same d below = absurd (omega (arith, below))
back_digit n m s (suc i) same d below =
    let lower : (e : ℕ) → e < i → digit n e ≡ digit m e = back_digit n m s i (λ e under. same e (omega (arith, under))) in
    elim (cases_lt d i) [
      | inl under ↦ lower d under
      | inr last ↦
          let at : d ≡ i = omega (arith, below, last) in
          subst (λ e. digit n e ≡ digit m e) (sym at) (elim (same i (omega arith)) [
            | inl here ↦ here
            | inr sums ↦ same_back n m s i lower sums
          ])
    ]
