-- how often operations stand in orders: with one of them first, and without one
use Rattle.std.proofs.Common.{◌≡◌, ℕ, ◌+◌, ◌≤◌, ◌==◌, Bool, true, false, not, cond, List, ◌∷◌, filter, refl, sym, ap, ◌∙◌, arith, eqb-true, eq-eqb, ne_eqb, ◌&&◌}
use Rattle.std.proofs.lemmas.Bool.{eqb-false}
use Rattle.chi_history.specs.History.{one_if}
use Rattle.chi_trace.specs.declared.operation.Operation.{Operation}
use Rattle.chi_trace.specs.Explains.{at, is_answered, times_in}
use Rattle.chi_trace.proofs.Orders.{times_in-filter}

-- the operations that are left are e and those of the second test
abbrev pub Parts : (ℕ → Bool) → ℕ → (ℕ → Bool) → Type 0
Parts l e rest = (i : ℕ) → one_if (l i) ≡ one_if (e == i) + one_if (rest i)

pub parts : (l rest : ℕ → Bool) (e : ℕ) → l e ≡ true → ((i : ℕ) → rest i ≡ (l i && not (i == e))) → Parts l e rest
parts l rest e is settles i = by_test (i == e) refl (settles i)
  where
    by_test : (b : Bool) → (i == e) ≡ b → rest i ≡ (l i && not b) → one_if (l i) ≡ one_if (e == i) + one_if (rest i)
    by_test true same r =
        let there : l i ≡ true = ap l (eqb-true i e same) ∙ is in
        let self : (e == i) ≡ true = eq-eqb e i (sym (eqb-true i e same)) in
        let none : rest i ≡ false = r ∙ ap (λ b. b && false) there in
        omega (arith, ap one_if there, ap one_if self, ap one_if none)
    by_test false other r =
        let differ : (e == i) ≡ false = ne_eqb e i (λ same. eqb-false i e other (sym same)) in
        omega (arith, ap one_if differ, ap one_if (r ∙ kept (l i)))
      where
        kept : (b : Bool) → (b && true) ≡ b
        kept true = refl
        kept false = refl

-- each operation that is left stands in the order at most once, at least once where its reply was seen, and no other does
pub record Covers (ts : List Operation) (l : ℕ → Bool) (x : List ℕ) : Type 0 where
  pub done : (i : ℕ) → one_if (l i && is_answered (at ts i)) ≤ times_in x i
  pub once : (i : ℕ) → times_in x i ≤ one_if (l i)

-- what comes first is left
pub covers_first : (ts : List Operation) (l : ℕ → Bool) (e : ℕ) (y : List ℕ) → Covers ts l (e ∷ y) → l e ≡ true
unfolding times_in
covers_first ts l e y c = by_test (l e) refl
  where
    by_test : (b : Bool) → l e ≡ b → l e ≡ true
    by_test true is = is
    by_test false is =
        let same : (e == e) ≡ true = eq-eqb e e refl in
        let whole : one_if (e == e) + times_in y e ≤ one_if (l e) = c.once e in
        absurd (omega (arith, ap one_if same, ap one_if is))

-- and the rest is of what is left after it
pub covers_rest : (ts : List Operation) (l rest : ℕ → Bool) (e : ℕ) (y : List ℕ) → Parts l e rest → Covers ts l (e ∷ y) → Covers ts rest y
unfolding times_in
covers_rest ts l rest e y takes c = record {
  done = λ i. least i (l i) (rest i) (is_answered (at ts i)) (takes i) (c.done i);
  once = λ i. let whole : one_if (e == i) + times_in y i ≤ one_if (l i) = c.once i in omega (arith, takes i);
}
  where
    least : (i : ℕ) (a b d : Bool) → one_if a ≡ one_if (e == i) + one_if b → one_if (a && d) ≤ one_if (e == i) + times_in y i → one_if (b && d) ≤ times_in y i
    least i true true d whole h = omega (arith, whole, h)
    least i true false d whole h = omega arith
    least i false true d whole h = absurd (omega (arith, whole))
    least i false false d whole h = omega arith

-- an operation that does not stand in the order need not be left
pub covers_settled : (ts : List Operation) (l rest : ℕ → Bool) (e : ℕ) (x : List ℕ) → Parts l e rest → times_in x e ≡ 0 → Covers ts l x → Covers ts rest x
covers_settled ts l rest e x takes none c = record {
  done = λ i. done (e == i) (l i) (rest i) (is_answered (at ts i)) (times_in x i) (takes i) (c.done i);
  once = λ i. once i (e == i) refl (takes i) (c.once i);
}
  where
    done : (b a r d : Bool) (n : ℕ) → one_if a ≡ one_if b + one_if r → one_if (a && d) ≤ n → one_if (r && d) ≤ n
    done b true true d n whole h = h
    done b true false d n whole h = omega arith
    done b false true d n whole h = absurd (omega (arith, whole))
    done b false false d n whole h = omega arith

    once : (i : ℕ) (b : Bool) → (e == i) ≡ b → one_if (l i) ≡ one_if b + one_if (rest i) → times_in x i ≤ one_if (l i) → times_in x i ≤ one_if (rest i)
    once i true same whole h = let zero : times_in x i ≡ 0 = ap (times_in x) (sym (eqb-true e i same)) ∙ none in omega arith
    once i false other whole h = omega (arith, whole, h)

abbrev pub without : ℕ → List ℕ → List ℕ
without e x = filter (λ j. not (j == e)) x

-- without an operation the others are left
pub covers_without : (ts : List Operation) (l rest : ℕ → Bool) (e : ℕ) (x : List ℕ) → Parts l e rest → Covers ts l x → Covers ts rest (without e x)
covers_without ts l rest e x takes c = record {
  done = λ i. rw (times_in-filter (λ j. not (j == e)) x i) (least i (i == e) refl (l i) (rest i) (is_answered (at ts i)) (takes i) (c.done i));
  once = λ i. rw (times_in-filter (λ j. not (j == e)) x i) (most i (i == e) refl);
}
  where
    at_most_one : (b : Bool) → one_if b ≤ 1
    at_most_one true = omega arith
    at_most_one false = omega arith

    least : (i : ℕ) (b : Bool) → (i == e) ≡ b → (a r d : Bool) → one_if a ≡ one_if (e == i) + one_if r → one_if (a && d) ≤ times_in x i
        → one_if (r && d) ≤ cond (not b) (times_in x i) 0
    least i true is a true d whole h =
        let same : (e == i) ≡ true = eq-eqb e i (sym (eqb-true i e is)) in
        absurd (omega (arith, at_most_one a, ap one_if same, whole))
    least i true is a false d whole h = omega arith
    least i false is true true d whole h = h
    least i false is false true d whole h = absurd (omega (arith, whole))
    least i false is a false d whole h = omega arith

    most : (i : ℕ) (b : Bool) → (i == e) ≡ b → cond (not b) (times_in x i) 0 ≤ one_if (rest i)
    most i true is = omega arith
    most i false is =
        let differ : (e == i) ≡ false = ne_eqb e i (λ same. eqb-false i e is (sym same)) in
        let whole : one_if (l i) ≡ one_if (e == i) + one_if (rest i) = takes i in
        let least : times_in x i ≤ one_if (l i) = c.once i in
        omega (arith, ap one_if differ)
