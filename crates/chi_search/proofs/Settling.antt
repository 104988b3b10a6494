-- the position after one more operation was settled
use Rattle.std.proofs.Common.{◌≡◌, ℕ, ◌+◌, ◌-◌, ◌<◌, ◌≤◌, ◌==◌, ◌||◌, ◌&&◌, nat_le, nat_lt, not, Bool, true, false, List, refl, sym, ap, ◌∙◌, arith, inl, inr, lt-ltb, ltb-true}
use Rattle.std.proofs.lemmas.Bool.{and_left, and_parts, cases_eq, cases_lt, eq-eqb, le-leb, leb-true, lt-leb, ne_eqb}
use Rattle.chi_search.specs.Positions.{IsReady, Position, Settles, has_bit, is_left, is_unsettled}

-- The second position is the first with one place more settled, and begins `by` places later. Those between are settled in
-- it, and the one that it begins with is not.
pub record Moved (count : ℕ) (p : Position) (place by : ℕ) (q : Position) : Type 0 where
  pub later : q.first ≡ p.first + by
  pub within : p.first + by ≤ count
  pub settled : (k : ℕ) → k < by → (has_bit p.settled k || (p.first + k == place)) ≡ true
  pub next : p.first + by < count → (has_bit p.settled by || (p.first + by == place)) ≡ false
  pub bits : (k : ℕ) → has_bit q.settled k ≡ (has_bit p.settled (by + k) || (p.first + (by + k) == place))

-- an operation that is left is one of the operations, and none before the first
pub left_is : (count : ℕ) (p : Position) (i : ℕ) → is_left count p i ≡ true → (i < count) × (p.first ≤ i)
left_is count p i left =
    let both = and_parts (nat_lt i count) (is_unsettled p i) left in
    (ltb-true i count both.0, leb-true p.first i (and_parts (nat_le p.first i) (not _) both.1).0)

-- none before the first is unsettled
before : (q : Position) (j : ℕ) → j < q.first → is_unsettled q j ≡ false
before q j early = and_left (nat_le q.first j) _ (lt-leb q.first j early)

-- what is settled, or the place itself, is not left
none : (b h e : Bool) → (h || e) ≡ true → ((b && not h) && not e) ≡ false
none false h e is = refl
none true true e is = refl
none true false e is = ap not is

-- what is neither settled nor the place itself
neither : (h e : Bool) → not (h || e) ≡ (not h && not e)
neither true e = refl
neither false e = refl

-- a place before the first position, one that was passed over, and one from the second position on
pub settles : (count : ℕ) (p : Position) (place by : ℕ) (q : Position) → Moved count p place by q → Settles p place q
settles count p place by q m j = elim (cases_lt j p.first) [
  | inl early ↦ before q j (omega arith) ∙ sym (and_left (is_unsettled p j) (not (j == place)) (before p j early))
  | inr from ↦ elim (cases_lt j q.first) [
    | inl passed ↦
        let same : p.first + (j - p.first) ≡ j = omega arith in
        let is : (has_bit p.settled (j - p.first) || (j == place)) ≡ true = rw same at (m.settled (j - p.first) (omega arith)) in
        before q j passed ∙ sym (none (nat_le p.first j) (has_bit p.settled (j - p.first)) (j == place) is)
    | inr there ↦
        let same : p.first + (j - p.first) ≡ j = omega arith in
        let further : by + (j - q.first) ≡ j - p.first = omega arith in
        let bit : has_bit q.settled (j - q.first) ≡ (has_bit p.settled (j - p.first) || (j == place)) = rw (further, same) at (m.bits (j - q.first)) in
        ap (λ b. b && not (has_bit q.settled (j - q.first))) (le-leb q.first j there)
        ∙ ap not bit ∙ neither (has_bit p.settled (j - p.first)) (j == place)
        ∙ ap (λ b. (b && not (has_bit p.settled (j - p.first))) && not (j == place)) (sym (le-leb p.first j from))
  ]
]

-- what is left of so many
and_and : (a b c : Bool) → (a && (b && c)) ≡ ((a && b) && c)
and_and true b c = refl
and_and false b c = refl

pub left_settles : (count : ℕ) (p : Position) (i : ℕ) (q : Position) → Settles p i q → (j : ℕ) → is_left count q j ≡ (is_left count p j && not (j == i))
left_settles count p i q settles j = ap (λ b. nat_lt j count && b) (settles j) ∙ and_and (nat_lt j count) (is_unsettled p j) (not (j == i))

-- the second position begins with one that is left, and what comes later stays unsettled
pub ready : (count : ℕ) (p : Position) (place by : ℕ) (q : Position) → Moved count p place by q → IsReady count p → place < count → IsReady count q
ready count p place by q m was one = record {
  within = omega (arith, m.within, m.later);
  left = λ below.
      let further : by + (q.first - q.first) ≡ by = omega arith in
      let bit : has_bit q.settled (q.first - q.first) ≡ false = rw further at (m.bits (q.first - q.first)) ∙ m.next (omega (arith, m.later)) in
      ap (λ b. b && (nat_le q.first q.first && not (has_bit q.settled (q.first - q.first)))) (lt-ltb q.first count below)
      ∙ ap (λ b. b && not (has_bit q.settled (q.first - q.first))) (le-leb q.first q.first (omega arith)) ∙ ap not bit;
  later = λ j past.
      settles count p place by q m j ∙ ap (λ b. b && not (j == place)) (was.later j past) ∙ ap not (ne_eqb j place (λ same. absurd (omega (arith, same, past, one))));
}

-- where the place comes after those that were passed over, and its bit was set
pub bits_put : (p : Position) (place by : ℕ) (old new : List ℕ) → p.first ≤ place → by ≤ place - p.first → ((k : ℕ) → has_bit old k ≡ has_bit p.settled (by + k))
    → ((k : ℕ) → has_bit new k ≡ (has_bit old k || (k == place - p.first - by))) → (k : ℕ) → has_bit new k ≡ (has_bit p.settled (by + k) || (p.first + (by + k) == place))
bits_put p place by old new from after shifted put k = put k ∙ ap (λ b. b || (k == place - p.first - by)) (shifted k) ∙ ap (λ b. has_bit p.settled (by + k) || b) same
  where
    same : (k == place - p.first - by) ≡ (p.first + (by + k) == place)
    same = elim (cases_eq k (place - p.first - by)) [
      | inl at ↦ eq-eqb k (place - p.first - by) at ∙ sym (eq-eqb (p.first + (by + k)) place (omega arith))
      | inr apart ↦ ne_eqb k (place - p.first - by) apart ∙ sym (ne_eqb (p.first + (by + k)) place (λ e. apart (omega arith)))
    ]

-- where the place is one of those that were passed over
pub bits_kept : (p : Position) (place by : ℕ) (new : List ℕ) → p.first ≤ place → place - p.first < by → ((k : ℕ) → has_bit new k ≡ has_bit p.settled (by + k))
    → (k : ℕ) → has_bit new k ≡ (has_bit p.settled (by + k) || (p.first + (by + k) == place))
bits_kept p place by new from passed shifted k =
    shifted k ∙ sym (or_false (has_bit p.settled (by + k))) ∙ ap (λ b. has_bit p.settled (by + k) || b) (sym (ne_eqb (p.first + (by + k)) place (λ e. omega arith)))
  where
    or_false : (b : Bool) → (b || false) ≡ b
    or_false true = refl
    or_false false = refl
