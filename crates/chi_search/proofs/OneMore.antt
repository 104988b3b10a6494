-- from each position there is one at which one operation more is settled
use Rattle.std.proofs.Common.{◌≡◌, ℕ, zero, suc, ◌+◌, ◌-◌, ◌*◌, ◌/◌, ◌%◌, ◌^◌, ◌≤◌, ◌==◌, ◌||◌, ◌&&◌, nat_le, not, Bool, true, false, List, [], ◌∷◌, ◌++◌, length, set, slice_index, refl, sym, ap, ◌∙◌, arith, inl, inr, length-append}
use Rattle.std.specs.Int.RustNames.{bit_or}
use Rattle.std.proofs.lemmas.Bool.{cases_eq, cases_lt, eq-eqb, le-leb, lt-leb, ne_eqb}
use Rattle.chi_search.specs.Positions.{Position, Settles, has_bit, is_unsettled}
use Rattle.chi_search.proofs.Bits.{has_put, same_bits, with_zero}

-- so many words of 0 more
widened : ℕ → List ℕ → List ℕ
widened zero words = words
widened (suc n) words = widened n (words ++ 0 ∷ [])

same_words : (n : ℕ) (words : List ℕ) (i : ℕ) → slice_index (widened n words) i ≡ slice_index words i
unfolding widened
same_words zero words i = refl
same_words (suc n) words i = same_words n (words ++ 0 ∷ []) i ∙ with_zero words i

long_enough : (n : ℕ) (words : List ℕ) → n + length words ≤ length (widened n words)
unfolding widened
long_enough zero words = omega arith
long_enough (suc n) words = let rest = long_enough n (words ++ 0 ∷ []) in omega (arith, rest, length-append words (0 ∷ []))

-- a set with one number more
with_number : (words : List ℕ) (n : ℕ) → (more : List ℕ) × ((k : ℕ) → has_bit more k ≡ (has_bit words k || (k == n)))
with_number words n = (
  set wide (n / 64) (bit_or (slice_index wide (n / 64)) (1 * 2 ^ (n % 64) % 2 ^ 64)),
  λ k. has_put wide n (n / 64) (n % 64) (omega (arith, long_enough (n / 64 + 1) words)) (omega arith) (omega arith) k
      ∙ ap (λ b. b || (k == n)) (same_bits wide words (same_words (n / 64 + 1) words) k),
)
  where
    wide : List ℕ
    wide = widened (n / 64 + 1) words

-- what is neither settled nor the place itself
neither : (h e : Bool) → not (h || e) ≡ (not h && not e)
neither true e = refl
neither false e = refl

-- the position with this word at which the operation is settled too
pub one_more : (p : Position) (i word : ℕ) → p.first ≤ i → (q : Position) × Settles p i q × (q.word ≡ word)
one_more p i word from =
    let more = with_number p.settled (i - p.first) in
    (record { first = p.first; settled = more.0; word = word }, λ j. settles more.0 more.1 j, refl)
  where
    settles : (more : List ℕ) → ((k : ℕ) → has_bit more k ≡ (has_bit p.settled k || (k == i - p.first))) → (j : ℕ)
        → (nat_le p.first j && not (has_bit more (j - p.first))) ≡ (is_unsettled p j && not (j == i))
    settles more is j = elim (cases_lt j p.first) [
      | inl before ↦ rw (lt-leb p.first j before) refl
      | inr there ↦ rw (le-leb p.first j there)
          (ap not (is (j - p.first) ∙ ap (λ b. has_bit p.settled (j - p.first) || b) (same there))
          ∙ neither (has_bit p.settled (j - p.first)) (j == i))
    ]
      where
        same : p.first ≤ j → (j - p.first == i - p.first) ≡ (j == i)
        same there = elim (cases_eq j i) [
          | inl at ↦ eq-eqb (j - p.first) (i - p.first) (omega (arith, at)) ∙ sym (eq-eqb j i at)
          | inr apart ↦ ne_eqb (j - p.first) (i - p.first) (λ e. apart (omega (arith, e, there, from))) ∙ sym (ne_eqb j i apart)
        ]
