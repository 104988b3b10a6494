-- of two values one of which may replace an old one, by an order, either may come first
use Rattle.std.proofs.Common.{◌≡◌, ℕ, ◌+◌, ◌%◌, ◌-◌, ◌*◌, ◌^◌, ◌<◌, ◌≤◌, Bool, true, false, cond, List, length, nat_lt, int_lt, bit_xor, refl, sym, ap, ap₂, subst, ◌∙◌, arith, true≢false, lt-ltb, ltb-true}
use Rattle.std.proofs.lemmas.Bool.{ltb-false}
use Rattle.std.specs.Int.{bit_at}
use Rattle.std.proofs.lemmas.Nat.Bits.{bit_at-lt, bit_at_xor, same_from_bits}
use Rattle.chi_lanes.specs.Bytes.{AreBytes, bytes, number_in, signed_number, signed_number_in}
use Rattle.chi_lanes.proofs.ReversedBytes.{bytes-number_in, number_in-bound}
use Rattle.chi_lanes.proofs.SignedLemmas.{signed_order}

-- the second, where the test says that it replaces the first
abbrev pub picked : (List ℕ → List ℕ → Bool) → List ℕ → List ℕ → List ℕ
picked test x y = cond (test x y) y x

-- what a test has to say of three values
record Ranks (test : List ℕ → List ℕ → Bool) (old s t : List ℕ) : Type 0 where
  by_s : test old s ≡ true → test s t ≡ true → test old t ≡ true
  by_t : test old t ≡ true → test t s ≡ true → test old s ≡ true
  apart : test s t ≡ true → test t s ≡ true → ⊥
  same : test s t ≡ false → test t s ≡ false → s ≡ t

either_first : (test : List ℕ → List ℕ → Bool) (old s t : List ℕ) → Ranks test old s t
    → picked test (picked test old s) t ≡ picked test (picked test old t) s
either_first test old s t ranks = by_tests (test old s) (test old t) (test s t) (test t s) refl refl refl refl
  where
    by_tests : (a b c d : Bool) → test old s ≡ a → test old t ≡ b → test s t ≡ c → test t s ≡ d
        → picked test (picked test old s) t ≡ picked test (picked test old t) s
    by_tests true true true true is_a is_b is_c is_d = absurd (ranks.apart is_c is_d)
    by_tests true true true false is_a is_b is_c is_d = rw (is_a, is_b, is_c, is_d) refl
    by_tests true true false true is_a is_b is_c is_d = rw (is_a, is_b, is_c, is_d) refl
    by_tests true true false false is_a is_b is_c is_d = rw (is_a, is_b, is_c, is_d) (ranks.same is_c is_d)
    by_tests true false true d is_a is_b is_c is_d = absurd (true≢false (sym (ranks.by_s is_a is_c) ∙ is_b))
    by_tests true false false d is_a is_b is_c is_d = rw (is_a, is_b, is_c) (rw is_a refl)
    by_tests false true c true is_a is_b is_c is_d = absurd (true≢false (sym (ranks.by_t is_b is_d) ∙ is_a))
    by_tests false true c false is_a is_b is_c is_d = rw (is_a, is_b, is_d) refl
    by_tests false false c d is_a is_b is_c is_d = rw (is_a, is_b) (rw is_a refl)

-- the greater of two numbers
pub greatest : (test : List ℕ → List ℕ → Bool) (old s t : List ℕ) (a b c : ℕ) → test old s ≡ nat_lt a b → test old t ≡ nat_lt a c
    → test s t ≡ nat_lt b c
    → test t s ≡ nat_lt c b → (b ≡ c → s ≡ t) → picked test (picked test old s) t ≡ picked test (picked test old t) s
greatest test old s t a b c old_s old_t s_t t_s same = either_first test old s t (record {
  by_s = λ first second. old_t ∙ lt-ltb a c (omega (arith, ltb-true a b (sym old_s ∙ first), ltb-true b c (sym s_t ∙ second)));
  by_t = λ first second. old_s ∙ lt-ltb a b (omega (arith, ltb-true a c (sym old_t ∙ first), ltb-true c b (sym t_s ∙ second)));
  apart = λ first second. omega (arith, ltb-true b c (sym s_t ∙ first), ltb-true c b (sym t_s ∙ second));
  same = λ first second. same (omega (arith, ltb-false b c (sym s_t ∙ first), ltb-false c b (sym t_s ∙ second)));
})

-- and the less
pub least : (test : List ℕ → List ℕ → Bool) (old s t : List ℕ) (a b c : ℕ) → test old s ≡ nat_lt b a → test old t ≡ nat_lt c a → test s t ≡ nat_lt c b
    → test t s ≡ nat_lt b c → (b ≡ c → s ≡ t) → picked test (picked test old s) t ≡ picked test (picked test old t) s
least test old s t a b c old_s old_t s_t t_s same = either_first test old s t (record {
  by_s = λ first second. old_t ∙ lt-ltb c a (omega (arith, ltb-true b a (sym old_s ∙ first), ltb-true c b (sym s_t ∙ second)));
  by_t = λ first second. old_s ∙ lt-ltb b a (omega (arith, ltb-true c a (sym old_t ∙ first), ltb-true b c (sym t_s ∙ second)));
  apart = λ first second. omega (arith, ltb-true c b (sym s_t ∙ first), ltb-true b c (sym t_s ∙ second));
  same = λ first second. same (omega (arith, ltb-false c b (sym s_t ∙ first), ltb-false b c (sym t_s ∙ second)));
})

-- bytes that spell one number are the same
pub same_number : (endian : Bool) (s t : List ℕ) → AreBytes s → AreBytes t → length s ≡ length t → number_in endian s ≡ number_in endian t → s ≡ t
same_number endian s t is_s is_t long same = sym (bytes-number_in endian s is_s) ∙ ap₂ (bytes endian) long same ∙ bytes-number_in endian t is_t

-- a number with its sign bit turned
abbrev pub turned : Bool → List ℕ → ℕ
turned endian bs = bit_xor (number_in endian bs) (2 ^ (8 * length bs - 1))

-- the signed order is that of the numbers with their sign bits turned
pub signed_by : (endian : Bool) (s t : List ℕ) → AreBytes s → AreBytes t → length s ≡ length t → 1 ≤ length s
    → int_lt (signed_number_in endian s) (signed_number_in endian t) ≡ nat_lt (turned endian s) (turned endian t)
signed_by endian s t is_s is_t long some =
    subst (λ n. int_lt (signed_number_in endian s) (signed_number n (number_in endian t)) ≡ nat_lt (turned endian s) (bit_xor (number_in endian t) (2 ^ (8 * n - 1)))) long
    (sym (signed_order (length s) (number_in endian s) (number_in endian t) some (number_in-bound endian s is_s)
    (subst (λ n. number_in endian t < 256 ^ n) (sym long) (number_in-bound endian t is_t))))

-- numbers that are the same with the same bits turned are the same
xor_back : (a b k : ℕ) → bit_xor a k ≡ bit_xor b k → a ≡ b
xor_back a b k same = same_from_bits a b (λ i.
    let bits : (bit_at a i + bit_at k i) % 2 ≡ (bit_at b i + bit_at k i) % 2 = sym (bit_at_xor a k i) ∙ ap (λ n. bit_at n i) same ∙ bit_at_xor b k i in
    omega (arith, bits, bit_at-lt a i, bit_at-lt b i, bit_at-lt k i))

-- bytes whose numbers with the sign bit turned are the same are the same
pub same_turned : (endian : Bool) (s t : List ℕ) → AreBytes s → AreBytes t → length s ≡ length t → turned endian s ≡ turned endian t → s ≡ t
same_turned endian s t is_s is_t long same =
    same_number endian s t is_s is_t long
    (xor_back (number_in endian s) (number_in endian t) (2 ^ (8 * length s - 1)) (same ∙ ap (λ n. bit_xor (number_in endian t) (2 ^ (8 * n - 1))) (sym long)))
