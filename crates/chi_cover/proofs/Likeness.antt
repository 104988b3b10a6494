-- operations that are alike
use Rattle.std.proofs.Common.{◌≡◌, ℕ, ◌≤◌, ◌&&◌, ◌||◌, Bool, true, false, cond, nat_le, List, [], ◌∷◌, filter, inl, inr, refl, sym, ap, ◌∙◌, arith, eqb-true}
use Rattle.std.specs.List.{list_any}
use Rattle.std.proofs.lemmas.Bool.{and_from, and_parts, both_ways, cases_lt, eq-eqb, false_from_ne_true, le-leb, leb-true, or_cases, or_left, or_right}
use Rattle.std.proofs.lemmas.List.Folds.{Any-from_list_any, list_any-from_Any}
use Rattle.chi_trace.specs.declared.operation.Operation.{Operation}
use Rattle.chi_trace.specs.Explains.{at}
use Rattle.chi_cover.specs.Numbers.{transaction_number}
use Rattle.chi_cover.specs.Open.{are_alike, has_alike, outlasts}
use Rattle.chi_cover.specs.Traffic.{transaction_of}

-- what two operations that are alike have in common
pub record IsAlike (a b : Operation) : Type 0 where
  pub transaction : transaction_number (transaction_of a.access.kind) ≡ transaction_number (transaction_of b.access.kind)
  pub src : a.src ≡ b.src
  pub addr : a.access.addr ≡ b.access.addr
  pub len : a.access.len ≡ b.access.len

alike_in : (a b : Operation) → are_alike a b ≡ true → IsAlike a b
unfolding are_alike
alike_in a b alike =
    let first = and_parts _ _ alike in
    let second = and_parts _ _ first.1 in
    let third = and_parts _ _ second.1 in
    record { transaction = eqb-true _ _ first.0; src = eqb-true _ _ second.0; addr = eqb-true _ _ third.0; len = eqb-true _ _ third.1 }

alike_from : (a b : Operation) → IsAlike a b → are_alike a b ≡ true
unfolding are_alike
alike_from a b alike =
    and_from _ _ (eq-eqb _ _ alike.transaction) (and_from _ _ (eq-eqb _ _ alike.src) (and_from _ _ (eq-eqb _ _ alike.addr) (eq-eqb _ _ alike.len)))

-- being alike is an equivalence
alike_itself : (a : Operation) → are_alike a a ≡ true
alike_itself a = alike_from a a (record { transaction = refl; src = refl; addr = refl; len = refl })

alike_back : (a b : Operation) → are_alike a b ≡ true → are_alike b a ≡ true
alike_back a b alike = let x = alike_in a b alike in alike_from b a (record { transaction = sym x.transaction; src = sym x.src; addr = sym x.addr; len = sym x.len })

alike_through : (a b c : Operation) → are_alike a b ≡ true → are_alike b c ≡ true → are_alike a c ≡ true
alike_through a b c first next =
    let x = alike_in a b first in
    let y = alike_in b c next in
    alike_from a c (record { transaction = x.transaction ∙ y.transaction; src = x.src ∙ y.src; addr = x.addr ∙ y.addr; len = x.len ∙ y.len })

-- an operation that outlasts one that is open and alike to a third is so too
pub outlasting : (a b op : Operation) (time : ℕ) → outlasts a b ≡ true → (nat_le time b.end && are_alike b op) ≡ true → (nat_le time a.end && are_alike a op) ≡ true
outlasting a b op time longer present =
    let lasting = and_parts (nat_le b.end a.end) (are_alike a b) longer in
    let now = and_parts (nat_le time b.end) (are_alike b op) present in
    let ends : b.end ≤ a.end = leb-true b.end a.end lasting.0 in
    let from : time ≤ b.end = leb-true time b.end now.0 in
    and_from _ _ (le-leb time a.end (omega arith)) (alike_through a b op lasting.1 now.1)

-- of two operations that are alike one ends no earlier
pub unlike : (a b : Operation) → outlasts a b ≡ false → outlasts b a ≡ false → are_alike a b ≡ false
unlike a b not_one not_other = false_from_ne_true (are_alike a b) (λ alike. elim (cases_lt a.end b.end) [
  | inl earlier ↦ both_ways (outlasts b a) not_other (and_from _ _ (le-leb a.end b.end (omega arith)) (alike_back a b alike))
  | inr later ↦ both_ways (outlasts a b) not_one (and_from _ _ (le-leb b.end a.end later) alike)
])

-- two tests that hold alike give one answer
same_test : (a b : Bool) → (a ≡ true → b ≡ true) → (b ≡ true → a ≡ true) → a ≡ b
same_test true true there back = refl
same_test true false there back = sym (there refl)
same_test false true there back = back refl
same_test false false there back = refl

-- some item passes a test where some item passes one that implies it
pub any_implied : (p q : ℕ → Bool) → ((k : ℕ) → p k ≡ true → q k ≡ true) → (ks : List ℕ) → list_any p ks ≡ true → list_any q ks ≡ true
any_implied p q implies [] some = some
any_implied p q implies (k ∷ ks) some =
    elim (or_cases (p k) (list_any p ks) some) [
      | inl here ↦ or_left (q k) (list_any q ks) (implies k here)
      | inr later ↦ or_right (q k) (list_any q ks) (any_implied p q implies ks later)
    ]

-- some item of a filter passes a test
pub any_filtered : (p q : ℕ → Bool) (ks : List ℕ) → list_any q (filter p ks) ≡ list_any (λ k. p k && q k) ks
any_filtered p q [] = refl
any_filtered p q (k ∷ ks) = by_test (p k) (any_filtered p q ks)
  where
    by_test : (a : Bool) → list_any q (filter p ks) ≡ list_any (λ k. p k && q k) ks
        → list_any q (cond a (k ∷ filter p ks) (filter p ks)) ≡ ((a && q k) || list_any (λ k. p k && q k) ks)
    by_test true rest = ap (λ t. q k || t) rest
    by_test false rest = rest

-- Where some place of a list is alike to an operation exactly where some place of another is, a test that does not tell alike
-- operations apart finds as much in both.
pub same_answers : (trace : List Operation) (places all : List ℕ) (test : Operation → Bool)
    → ((op : Operation) → has_alike trace places op ≡ has_alike trace all op) → ((a b : Operation) → IsAlike a b → test b ≡ true → test a ≡ true)
    → list_any (λ j. test (at trace j)) places ≡ list_any (λ j. test (at trace j)) all
same_answers trace places all test same alike =
    same_test _ _ (found_in places all same) (found_in all places (λ op. sym (same op)))
  where
    found_in : (these those : List ℕ) → ((op : Operation) → has_alike trace these op ≡ has_alike trace those op)
        → list_any (λ j. test (at trace j)) these ≡ true → list_any (λ j. test (at trace j)) those ≡ true
    found_in these those equal found =
        let some = Any-from_list_any (λ j. test (at trace j)) these found in
        let op = at trace some.1 in
        let there : has_alike trace these op ≡ true =
        list_any-from_Any (λ j. are_alike (at trace j) op) these (some.0, some.1, some.2, some.3, alike_itself op) in
        any_implied (λ j. are_alike (at trace j) op) (λ j. test (at trace j)) (λ k is. alike (at trace k) op (alike_in (at trace k) op is) some.4) those (sym (equal op) ∙ there)
