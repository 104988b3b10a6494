-- how far the sums before a place can go, from place to place
use Rattle.std.proofs.Common.{◌≡◌, ℕ, zero, suc, ◌+◌, ◌<◌, ◌≤◌, ◌&&◌, nat_le, Bool, true, false, cond, List, length, refl, sym, ap, ◌∙◌, arith, inl, inr, subst, le-leb, leb-true, true≢false}
use Rattle.std.proofs.lemmas.Bool.{and_parts, cases_lt}
use Rattle.chi_fields.specs.Access.{Access}
use Rattle.chi_trace.specs.declared.operation.Operation.{Operation}
use Rattle.chi_trace.specs.Explains.{at}
use Rattle.chi_search.specs.declared.counting.Span.{Span}
use Rattle.chi_search.specs.Counters.{AddsOrKeeps, IsSpan, added, counts, down_by, downs, sum_below, up_by, ups}
use Rattle.chi_search.specs.Positions.{Position, is_left}
use Rattle.chi_search.proofs.Settling.{left_is}

-- numbers that are 0 add nothing
sum_skip : (f : ℕ → ℕ) (a b : ℕ) → a ≤ b → ((i : ℕ) → a ≤ i → i < b → f i ≡ 0) → sum_below f b ≡ sum_below f a
unfolding sum_below
sum_skip f zero zero below none = refl
sum_skip f (suc a) zero below none = absurd (omega (arith, below))
sum_skip f a (suc b) below none = elim (cases_lt b a) [
  | inl before ↦ let same : suc b ≡ a = omega (arith, before, below) in ap (sum_below f) same
  | inr from ↦ omega (arith, none b from (omega arith), sum_skip f a b from (λ i first last. none i first (omega (arith, last))))
]

-- one number more
sum_next : (f : ℕ → ℕ) (n : ℕ) → sum_below f (n + 1) ≡ sum_below f n + f n
unfolding sum_below
sum_next f n = let same : n + 1 ≡ suc n = omega arith in ap (sum_below f) same

-- a test that is not passed
fails : (b : Bool) → (b ≡ true → ⊥) → b ≡ false
fails true not = absurd (not refl)
fails false not = refl

module _ (ops : List Operation) (p : Position) (until : ℕ) (o : Access) (bits : ℕ) where
  -- none counts that starts later
  pub late : (i : ℕ) → until < (at ops i).start → counts ops p until i ≡ false
  late i past =
      fails (counts ops p until i) (λ is. omega (arith, past, leb-true (at ops i).start until (and_parts (is_left (length ops) p i) (nat_le (at ops i).start until) is).1))

  -- nor one that is settled
  pub settled : (i : ℕ) → is_left (length ops) p i ≡ false → counts ops p until i ≡ false
  settled i not = ap (λ b. b && nat_le (at ops i).start until) not

  pub passed : (i : ℕ) → i < p.first → counts ops p until i ≡ false
  passed i before = settled i (fails (is_left (length ops) p i) (λ left. omega (arith, before, (left_is (length ops) p i left).1)))

  -- where none counts, the sums go no further
  pub none_counts : (place further : ℕ) (span : Span) → place ≤ further → ((i : ℕ) → place ≤ i → i < further → counts ops p until i ≡ false)
      → IsSpan ops p until o bits place span → IsSpan ops p until o bits further span
  none_counts place further span on none is = record {
    each = λ i below counted. elim (cases_lt i place) [
      | inl before ↦ is.each i before counted
      | inr from ↦ absurd (true≢false (sym counted ∙ none i from below))
    ];
    up = is.up ∙ sym (sum_skip (ups ops p until o.len) place further on (λ i from below. ap (λ b. cond b (up_by o.len (added (at ops i))) 0) (none i from below)));
    down = is.down ∙ sym (sum_skip (downs ops p until o.len) place further on (λ i from below. ap (λ b. cond b (down_by o.len (added (at ops i))) 0) (none i from below)));
  }

  -- before the first they go nowhere
  pub nothing_counts : (place : ℕ) → ((i : ℕ) → p.first ≤ i → i < place → until < (at ops i).start) → IsSpan ops p until o bits place (record { up = 0; down = 0 })
  unfolding sum_below
  nothing_counts place later =
      none_counts 0 place (record { up = 0; down = 0 }) (omega arith) none (record { each = λ i below. absurd (omega (arith, below)); up = refl; down = refl })
    where
      none : (i : ℕ) → 0 ≤ i → i < place → counts ops p until i ≡ false
      none i _ below = elim (cases_lt i p.first) [
        | inl before ↦ passed i before
        | inr from ↦ late i (later i from below)
      ]

  -- one that counts takes them further
  pub one_counts : (place : ℕ) (span wider : Span) → is_left (length ops) p place ≡ true → (at ops place).start ≤ until → AddsOrKeeps o bits (at ops place)
      → wider.up ≡ span.up + up_by o.len (added (at ops place)) → wider.down ≡ span.down + down_by o.len (added (at ops place))
      → IsSpan ops p until o bits place span → IsSpan ops p until o bits (place + 1) wider
  one_counts place span wider left early adds up down is = record {
    each = λ i below counted. elim (cases_lt i place) [
      | inl before ↦ is.each i before counted
      | inr from ↦ let here : place ≡ i = omega (arith, below, from) in subst (λ j. AddsOrKeeps o bits (at ops j)) here adds
    ];
    up = omega (arith, up, is.up, sum_next (ups ops p until o.len) place, ap (λ b. cond b (up_by o.len (added (at ops place))) 0) here_counts);
    down = omega (arith, down, is.down, sum_next (downs ops p until o.len) place, ap (λ b. cond b (down_by o.len (added (at ops place))) 0) here_counts);
  }
    where
      here_counts : counts ops p until place ≡ true
      here_counts = ap (λ b. b && nat_le (at ops place).start until) left ∙ le-leb (at ops place).start until early
