-- sets of requester numbers, and families by number
use Rattle.std.proofs.Common.{◌≡◌, ℕ, zero, suc, ◌<◌, ◌≤◌, Bool, true, false, not, ◌&&◌, ◌||◌, ◌==◌, nat_lt, if◌then◌else◌, refl, sym, ap, subst, ◌∙◌, eqb-true, eq-eqb, ◌≢◌, arith, true≢false}
use Rattle.std.proofs.Math.Bool.{and-true, or-false, or_assoc}
use Rattle.std.proofs.lemmas.Bool.{lt-ltb, or_left, or_right}
use Rattle.chi_history.specs.NumberSets.{Held, below, only, union, without}
use Rattle.chi_requester.specs.Team.{one_to, without_to}

-- a number that is not in a set is none of the set's
pub apart_from : (set : Held) (src r : ℕ) → set src ≡ false → set r ≡ true → only src r ≡ false
apart_from set src r apart has = by_test (r == src) refl
  where
    by_test : (b : Bool) → (r == src) ≡ b → (r == src) ≡ false
    by_test true here = absurd (true≢false (sym has ∙ (ap set (eqb-true r src here) ∙ apart)))
    by_test false off = off

-- one more number is taken out of what is kept, and put to what was taken out
pub whole_split : (all kept off : Held) (src : ℕ) → union kept off ≡ all → kept src ≡ true → union (without src kept) (union off (only src)) ≡ all
whole_split all kept off src whole has = (λ i r. by_test r (r == src) refl i) ∙ whole
  where
    table : (a b : Bool) → a ≡ true → (a && false) || (b || true) ≡ a || b
    table a b is = grind arith

    by_test : (r : ℕ) (b : Bool) → (r == src) ≡ b → (kept r && not b) || (off r || b) ≡ kept r || off r
    by_test r true here = table (kept r) (off r) (ap kept (eqb-true r src here) ∙ has)
    by_test r false gone = rw (and-true (kept r), or-false (off r)) refl

-- a number above n is none of those up to n
pub not_one_to : (n src : ℕ) → n < src → one_to n src ≡ false
not_one_to zero src above = refl
not_one_to (suc n) src above = rw (not_one_to n src (omega arith), eqb_above src (suc n) above) refl
  where
    eqb_above : (a b : ℕ) → b < a → (a == b) ≡ false
    eqb_above a b more = grind arith

-- 0 is none of the numbers from 1 on
pub not_zero : (n : ℕ) → one_to n 0 ≡ false
not_zero zero = refl
not_zero (suc n) = rw (not_zero n) (grind arith)

-- a number up to n is 0 or one of those from 1 to n
pub one_to_within : (n src : ℕ) → src ≤ n → union (one_to n) (only 0) src ≡ true
one_to_within zero src small = eq-eqb src 0 (omega arith)
one_to_within (suc n) src small = by_test (one_to_within n src) (src == suc n) refl
  where
    by_test : (src ≤ n → one_to n src || (src == 0) ≡ true) → (b : Bool) → (src == suc n) ≡ b → (one_to n src || b) || (src == 0) ≡ true
    by_test fewer true here = or_left (one_to n src || true) (src == 0) (or_right (one_to n src) true refl)
    by_test fewer false off =
        let other : src ≢ suc n = λ is. true≢false (sym (eq-eqb src (suc n) is) ∙ off) in
        rw (or-false (one_to n src)) (fewer (omega arith))

-- what is taken out of a set up to n leaves the other numbers
pub kept_above : (n src : ℕ) (held : Held) → n < src → held src ≡ true → without_to n held src ≡ true
kept_above zero src held above has = has
kept_above (suc n) src held above has = rw (kept_above n src held (omega arith) has) (grind arith)

pub kept_zero : (n : ℕ) (held : Held) → held 0 ≡ true → without_to n held 0 ≡ true
kept_zero zero held has = has
kept_zero (suc n) held has = rw (kept_zero n held has) (grind arith)

-- the numbers up to n taken out of those below more, and put together again
pub whole_to : (n more : ℕ) → n < more → union (without_to n (below more)) (one_to n) ≡ below more
whole_to zero more room = λ i r. or-false (nat_lt r more) i
whole_to (suc n) more room =
    whole_split (below more) (without_to n (below more)) (one_to n) (suc n) (whole_to n more (omega arith)) (kept_above n (suc n) (below more) (omega arith) (lt-ltb (suc n) more room))

-- what was kept and was taken back, and one number more
pub one_more : (src : ℕ) (kept team held own back : Held) → held ≡ union kept team → own ≡ only src → back ≡ union held own → back ≡ union kept (union team (only src))
one_more src kept team held own back held_is alone joined = joined ∙ (λ i. union (held_is i) (alone i)) ∙ (λ i r. or_assoc (kept r) (team r) (r == src) i)

-- a seat that held every number and gave those up to n
pub whole_rest : (n more : ℕ) (held rest : Held) → n < more → held ≡ below more → rest ≡ without_to n held → union rest (one_to n) ≡ below more
whole_rest n more held rest room whole given = ap (λ (s : Held). union s (one_to n)) (given ∙ ap (without_to n) whole) ∙ whole_to n more room

-- took them back, and holds every number again
pub whole_again : (n m more : ℕ) (held rest back : Held) → n < more → m ≡ n → held ≡ below more → rest ≡ without_to n held → back ≡ union rest (one_to m) → back ≡ held
whole_again n m more held rest back room same whole given taken =
    taken ∙ (ap (λ k. union rest (one_to k)) same ∙ (whole_rest n more held rest room whole given ∙ sym whole))

-- a family with another value at one number
abbrev pub put : {A : Type 0} → ℕ → A → (ℕ → A) → ℕ → A
put src x f = λ r. if r == src then x else f r

-- what holds of the new value and of a family's over a set
pub put_each : {A : Type 0} (P : ℕ → A → Type 0) (set : Held) (src : ℕ) (x : A) (f : ℕ → A) → P src x → ((r : ℕ) → set r ≡ true → P r (f r))
    → (r : ℕ) → union set (only src) r ≡ true → P r (put src x f r)
put_each P set src x f new old r = by_test (r == src) refl
  where
    by_test : (b : Bool) → (r == src) ≡ b → set r || b ≡ true → P r (if b then x else f r)
    by_test true here is = let Q : ℕ → Type 0 = λ n. P n x in subst Q (sym (eqb-true r src here)) new
    by_test false off is = old r (sym (or-false (set r)) ∙ is)

-- outside of the number the family is as it was
pub put_other : {A : Type 0} (set : Held) (src : ℕ) (x : A) (f : ℕ → A) (r : ℕ) → set src ≡ false → set r ≡ true → put src x f r ≡ f r
put_other set src x f r apart has = ap (λ (b : Bool). if b then x else f r) (apart_from set src r apart has)
