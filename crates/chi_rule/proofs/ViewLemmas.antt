-- the numbers and the histories of seats
use Rattle.std.proofs.Common.{◌≡◌, ℕ, zero, suc, ◌≤◌, ◌==◌, nat_le, nat_lt, Bool, true, false, not, ◌&&◌, ◌||◌, cond, List, [], ◌∷◌, ◌++◌, length, refl, sym, ap, subst, ◌∙◌, ◌⊎◌, inl, inr, true≢false, eqb-true, eq-eqb, arith, append-nil, length-append}
use Rattle.std.proofs.lemmas.Bool.{leb-true}
use Rattle.std.proofs.lemmas.Bool.Decides.{nat_tests}
use Rattle.chi_history.specs.declared.entry.Entry.{Entry}
use Rattle.chi_history.specs.NumberSets.{Held, Apart, below, only, union, without}
use Rattle.chi_history.specs.History.{IsFreeOf}
use Rattle.chi_history.specs.HomeClauses.{Joins}
use Rattle.chi_history.specs.NumberLists.{has}
use Rattle.chi_history.proofs.HistoryLemmas.{free-front, longer}
use Rattle.chi_rule.specs.Views.{all_below, all_but, longest_of}
use Rattle.chi_rule.proofs.Histories.{free-back}

-- a number that a set has and another has not is not in both
pub apart_sym : (held other : Held) → Apart held other → Apart other held
apart_sym held other apart r in_other = not_in (held r) refl
  where
    not_in : (b : Bool) → held r ≡ b → held r ≡ false
    not_in true is = absurd (true≢false (sym in_other ∙ apart r is))
    not_in false is = is

-- each number of the first set is in the second
abbrev pub Within : Held → Held → Type 0
Within held other = (r : ℕ) → held r ≡ true → other r ≡ true

-- parts of sets that share no number share none
pub within_apart : (held other held' other' : Held) → Apart held other → Within held' held → Within other' other → Apart held' other'
within_apart held other held' other' apart within within' r in_held = by_test (other' r) refl
  where
    by_test : (b : Bool) → other' r ≡ b → other' r ≡ false
    by_test true is = absurd (true≢false (sym (within' r is) ∙ apart r (within r in_held)))
    by_test false is = is

-- one of two tests that hold together
or_parts : (a b : Bool) → (a || b) ≡ true → (a ≡ true) ⊎ (b ≡ true)
or_parts true b is = inl refl
or_parts false b is = inr is

-- two tests that both fail
or_none : (a b : Bool) → a ≡ false → b ≡ false → (a || b) ≡ false
or_none a b p q = rw (p, q) refl

-- three tests, grouped in either way
or_assoc : (a b c : Bool) → (a || (b || c)) ≡ ((a || b) || c)
or_assoc true b c = refl
or_assoc false b c = refl

-- the numbers of two lists, one after another
pub has-append : (xs ys : List ℕ) → has (xs ++ ys) ≡ union (has xs) (has ys)
unfolding has
has-append [] ys = refl
has-append (x ∷ xs) ys = λ i r. (ap (λ b. r == x || b) (λ j. has-append xs ys j r) ∙ or_assoc (r == x) (has xs r) (has ys r)) i

-- a test and one that fails
or_false : (b : Bool) → (b || false) ≡ b
or_false true = refl
or_false false = refl

-- a list of one number
pub has-only : (src : ℕ) → has (src ∷ []) ≡ only src
unfolding has
has-only src = λ i r. or_false (r == src) i

-- every number below this one
has_all_below : (n r : ℕ) → has (all_below n) r ≡ nat_lt r n
unfolding has all_below
has_all_below zero r = grind (arith, nat_tests)
has_all_below (suc n) r = let rest = has_all_below n r in grind (arith, nat_tests, rest)

-- the same of the whole set
pub has-all_below : (n : ℕ) → has (all_below n) ≡ below n
has-all_below n = λ i r. has_all_below n r i

-- the numbers of a list but one
has_all_but : (src : ℕ) (xs : List ℕ) (r : ℕ) → has (all_but src xs) r ≡ (has xs r && not (r == src))
unfolding has all_but
has_all_but src [] r = refl
has_all_but src (x ∷ xs) r = by_test (x == src) refl (r == x) refl (has_all_but src xs r)
  where
    rest : Bool
    rest = has (all_but src xs) r

    by_test : (b : Bool) → (x == src) ≡ b → (c : Bool) → (r == x) ≡ c → rest ≡ (has xs r && not (r == src))
        → has (cond b (all_but src xs) (x ∷ all_but src xs)) r ≡ (((r == x) || has xs r) && not (r == src))
    by_test true is true at h =
        let same : (r == src) ≡ true = eq-eqb r src (eqb-true r x at ∙ eqb-true x src is) in
        h ∙ rw (at, same) (and_false (has xs r))
      where
        and_false : (b : Bool) → (b && false) ≡ false
        and_false true = refl
        and_false false = refl
    by_test true is false at h = rw at h
    by_test false is true at h =
        let other : (r == src) ≡ false = ap (λ k. k == src) (eqb-true r x at) ∙ is in
        rw (at, other) refl
    by_test false is false at h = rw at h

-- the same of the whole set
pub has-all_but : (src : ℕ) (xs : List ℕ) → has (all_but src xs) ≡ without src (has xs)
has-all_but src xs = λ i r. has_all_but src xs r i

-- two sets that share no number with a third, taken together
pub apart_union : (held other third : Held) → Apart held third → Apart other third → Apart (union held other) third
apart_union held other third first second r is = elim (or_parts (held r) (other r) is) [ inl h ↦ first r h | inr h ↦ second r h ]

-- a set that shares no number with two others shares none with both together
pub union_apart : (held other third : Held) → Apart third held → Apart third other → Apart third (union held other)
union_apart held other third first second r is = or_none (held r) (other r) (first r is) (second r is)

-- a number of a union is of one of the sets
pub union_parts : (held other : Held) (r : ℕ) → union held other r ≡ true → (held r ≡ true) ⊎ (other r ≡ true)
union_parts held other r is = or_parts (held r) (other r) is

-- of two prefixes of a history, the longer, and how both go on
pub record Meets (xs r ys s : List Entry) (held other : Held) : Type 0 where
  pub joins : Joins held xs other ys (longest_of xs ys)
  pub rest : List Entry
  pub whole : xs ++ r ≡ longest_of xs ys ++ rest
  pub free : IsFreeOf held rest
  pub other_free : IsFreeOf other rest

-- an order, as a test
test_le : (m n : ℕ) → m ≤ n → nat_le m n ≡ true
test_le m n le = grind (arith, nat_tests)

-- the second, where the first is its prefix
pub longest_second : (xs t ys : List Entry) → xs ++ t ≡ ys → longest_of xs ys ≡ ys
unfolding longest_of
longest_second xs t ys same = by_test (nat_le (length ys) (length xs)) refl t same
  where
    by_test : (b : Bool) → nat_le (length ys) (length xs) ≡ b → (t : List Entry) → xs ++ t ≡ ys → cond b xs ys ≡ ys
    by_test false is t same = refl
    by_test true is [] same = sym (append-nil xs) ∙ same
    by_test true is (e ∷ es) same =
        let long : length (xs ++ e ∷ es) ≡ length ys = ap length same in
        let short : length ys ≤ length xs = leb-true (length ys) (length xs) is in
        absurd (omega (arith, length-append xs (e ∷ es)))

-- the first, where the second is its prefix
pub longest_first : (xs t ys : List Entry) → ys ++ t ≡ xs → longest_of xs ys ≡ xs
unfolding longest_of
longest_first xs t ys same =
    let long : length (ys ++ t) ≡ length xs = ap length same in
    let short : length ys ≤ length xs = omega (arith, length-append ys t) in
    rw (test_le (length ys) (length xs) short) refl

-- what two seats have seen of one history, taken together
pub meets : (xs r ys s : List Entry) (held other : Held) → xs ++ r ≡ ys ++ s → IsFreeOf held r → IsFreeOf other s → Meets xs r ys s held other
unfolding IsFreeOf
meets xs r ys s held other same free other_free = elim (longer xs r ys s same) [
  | inl t ↦
      let is = longest_second xs t.0 ys t.1 in
      let front = free-front held t.0 s (subst (IsFreeOf held) (sym t.2) free) in
      let back = free-back held t.0 s (subst (IsFreeOf held) (sym t.2) free) in
      record {
        joins = record {
          more = t.0;
          other_more = [];
          grown = is ∙ sym t.1;
          free = front;
          other_grown = is ∙ sym (append-nil ys);
          other_free = tt;
          one_empty = inr refl;
        };
        rest = s;
        whole = same ∙ ap (λ l. l ++ s) (sym is);
        free = back;
        other_free = other_free;
      }
  | inr t ↦
      let is = longest_first xs t.0 ys t.1 in
      let front = free-front other t.0 r (subst (IsFreeOf other) (sym t.2) other_free) in
      let back = free-back other t.0 r (subst (IsFreeOf other) (sym t.2) other_free) in
      record {
        joins = record {
          more = [];
          other_more = t.0;
          grown = is ∙ sym (append-nil xs);
          free = tt;
          other_grown = is ∙ sym t.1;
          other_free = front;
          one_empty = inl refl;
        };
        rest = r;
        whole = ap (λ l. l ++ r) (sym is);
        free = free;
        other_free = back;
      }
]
