-- sets of requester numbers as lists
use Rattle.std.proofs.Common.{◌≡◌, ℕ, zero, suc, ◌+◌, ◌<◌, ◌==◌, nat_eq, Bool, true, false, cond, ◌||◌, List, [], ◌∷◌, ◌++◌, length, refl, sym, ap, subst, ◌∙◌, true≢false, arith, length-append, eq-eqb, eqb-true, inl, inr}
use Rattle.std.proofs.lemmas.Bool.{cases_Bool, cases_eq, cond-false, cond-true, ne_eqb, or_cases, or_left, or_right}
use Rattle.std.specs.List.{list_any}
use Rattle.chi_history.specs.NumberSets.{Held}
use Rattle.chi_history.specs.NumberLists.{IsInOrder, has, numbers_in, size_below}

-- the numbers of a list and those of another
pub has-append : (xs ys : List ℕ) (r : ℕ) → has (xs ++ ys) r ≡ has xs r || has ys r
unfolding has
has-append [] ys r = refl
has-append (x ∷ xs) ys r = by_test (r == x) (has-append xs ys r)
  where
    by_test : (b : Bool) → has (xs ++ ys) r ≡ has xs r || has ys r → b || has (xs ++ ys) r ≡ (b || has xs r) || has ys r
    by_test true rest = refl
    by_test false rest = rest

-- equality goes both ways
nat_eq-sym : (a b : ℕ) → nat_eq a b ≡ nat_eq b a
nat_eq-sym a b = elim (cases_eq a b) [
  | inl same ↦ eq-eqb a b same ∙ sym (eq-eqb b a (sym same))
  | inr other ↦ ne_eqb a b other ∙ sym (ne_eqb b a (λ same. other (sym same)))
]

-- what a test of the list for a number finds
pub list_any-has : (xs : List ℕ) (r : ℕ) → list_any (λ x. nat_eq x r) xs ≡ has xs r
unfolding has
list_any-has [] r = refl
list_any-has (x ∷ xs) r = rw (nat_eq-sym x r, list_any-has xs r) refl

-- the list goes on by a number that is in the set, and not by another
numbers_in-more : (held : Held) (n : ℕ) → held n ≡ true → numbers_in held (suc n) ≡ numbers_in held n ++ n ∷ []
unfolding numbers_in
numbers_in-more held n is = cond-true (held n) (numbers_in held n ++ n ∷ []) (numbers_in held n) is

numbers_in-same : (held : Held) (n : ℕ) → held n ≡ false → numbers_in held (suc n) ≡ numbers_in held n
unfolding numbers_in
numbers_in-same held n not_in = cond-false (held n) (numbers_in held n ++ n ∷ []) (numbers_in held n) not_in

-- the last number of a list
has-last : (xs : List ℕ) (n r : ℕ) → has (xs ++ n ∷ []) r ≡ has xs r || (r == n || false)
unfolding has
has-last xs n r = has-append xs (n ∷ []) r

-- a number of the list is in the set and below the bound
pub numbers_in-held : (held : Held) (n r : ℕ) → has (numbers_in held n) r ≡ true → (held r ≡ true) × (r < n)
unfolding numbers_in has
numbers_in-held held zero r h = absurd (true≢false (sym h))
numbers_in-held held (suc n) r h = elim (cases_Bool (held n)) [
  | inl is ↦ elim (or_cases (has (numbers_in held n) r) (r == n || false) (sym (has-last (numbers_in held n) n r) ∙ (ap (λ xs. has xs r) (sym (numbers_in-more held n is)) ∙ h))) [
    | inl low ↦ let rest = numbers_in-held held n r low in (rest.0, omega (arith, rest.1))
    | inr top ↦ elim (or_cases (r == n) false top) [
      | inl same ↦ let at : r ≡ n = eqb-true r n same in (ap held at ∙ is, omega arith)
      | inr never ↦ absurd (true≢false (sym never))
    ]
  ]
  | inr not_in ↦ let rest = numbers_in-held held n r (ap (λ xs. has xs r) (sym (numbers_in-same held n not_in)) ∙ h) in (rest.0, omega (arith, rest.1))
]

-- a number of the set below the bound is in the list
pub held-numbers_in : (held : Held) (n r : ℕ) → held r ≡ true → r < n → has (numbers_in held n) r ≡ true
held-numbers_in held zero r is low = absurd (omega arith)
held-numbers_in held (suc n) r is low = elim (cases_eq r n) [
  | inl same ↦ ap (λ xs. has xs r) (numbers_in-more held n (ap held (sym same) ∙ is)) ∙ (has-last (numbers_in held n) n r
      ∙ or_right (has (numbers_in held n) r) (r == n || false) (or_left (r == n) false (eq-eqb r n same)))
  | inr other ↦ let lower : has (numbers_in held n) r ≡ true = held-numbers_in held n r is (omega arith) in
      elim (cases_Bool (held n)) [
        | inl more ↦ ap (λ xs. has xs r) (numbers_in-more held n more) ∙ (has-last (numbers_in held n) n r ∙ or_left (has (numbers_in held n) r) (r == n || false) lower)
        | inr not_in ↦ ap (λ xs. has xs r) (numbers_in-same held n not_in) ∙ lower
      ]
]

-- tests that are true together are equal
same_tests : (a b : Bool) → (a ≡ true → b ≡ true) → (b ≡ true → a ≡ true) → a ≡ b
same_tests true b to from = sym (to refl)
same_tests false true to from = absurd (true≢false (sym (from refl)))
same_tests false false to from = refl

-- the numbers of the list, where the set has none from the bound on
pub has-numbers_in : (held : Held) (n : ℕ) → ((r : ℕ) → held r ≡ true → r < n) → has (numbers_in held n) ≡ held
has-numbers_in held n low = λ i r. same_tests (has (numbers_in held n) r) (held r)
    (λ h. (numbers_in-held held n r h).0) (λ h. held-numbers_in held n r h (low r h)) i

-- sets that agree below the bound have one list
numbers_in-agree : (p q : Held) (n : ℕ) → ((r : ℕ) → r < n → p r ≡ q r) → numbers_in p n ≡ numbers_in q n
unfolding numbers_in
numbers_in-agree p q zero same = refl
numbers_in-agree p q (suc n) same =
    rw (same n (omega arith), numbers_in-agree p q n (λ r low. same r (omega arith))) refl

-- the list of a set is in order
pub IsInOrder-numbers_in : (held : Held) → IsInOrder (numbers_in held 8)
IsInOrder-numbers_in held = numbers_in-agree held (has (numbers_in held 8)) 8
    (λ r low. same_tests (held r) (has (numbers_in held 8) r) (λ h. held-numbers_in held 8 r h low) (λ h. (numbers_in-held held 8 r h).0))

-- the numbers of a list in order are below 8
pub IsInOrder-below : (xs : List ℕ) → IsInOrder xs → (r : ℕ) → has xs r ≡ true → r < 8
IsInOrder-below xs order r h = (numbers_in-held (has xs) 8 r (ap (λ ys. has ys r) (sym order) ∙ h)).1

-- a list of the numbers of a set below 8 is in order
pub listed_in_order : (held : Held) (n : ℕ) (xs : List ℕ) → n ≡ 8 → xs ≡ numbers_in held n → IsInOrder xs
listed_in_order held n xs last listed = let listed_all = rw last at listed in subst IsInOrder (sym listed_all) (IsInOrder-numbers_in held)

-- and it is the list of that set, where the set has no other number
pub listed_has : (held : Held) (n : ℕ) (xs : List ℕ) → n ≡ 8 → xs ≡ numbers_in held n → ((r : ℕ) → held r ≡ true → r < 8) → has xs ≡ held
listed_has held n xs last listed low = ap has (rw last at listed) ∙ has-numbers_in held 8 low

-- how long the list is
pub length-numbers_in : (held : Held) (n : ℕ) → length (numbers_in held n) ≡ size_below held n
unfolding numbers_in size_below
length-numbers_in held zero = refl
length-numbers_in held (suc n) = by_test (held n) (length-numbers_in held n)
  where
    by_test : (b : Bool) → length (numbers_in held n) ≡ size_below held n
        → length (cond b (numbers_in held n ++ n ∷ []) (numbers_in held n)) ≡ cond b (size_below held n + 1) (size_below held n)
    by_test true rest = length-append (numbers_in held n) (n ∷ []) ∙ ap (λ k. k + 1) rest
    by_test false rest = rest
