-- orders of two traces one after the other, and orders of each
use Rattle.std.proofs.Common.{◌≡◌, ℕ, ◌+◌, ◌-◌, ◌<◌, ◌≤◌, not, Bool, true, false, cond, List, [], ◌∷◌, ◌++◌, All, filter, get_or, length, refl, sym, ap, ◌∙◌, arith, length-append, ltb-true}
use Rattle.std.proofs.lemmas.Bool.{ltb-false}
use Rattle.std.proofs.lemmas.List.{get_or-append_right, get_or_append_left}
use Rattle.std.proofs.lemmas.List.Elements.{All-tail}
use Rattle.chi_trace.specs.declared.operation.Operation.{Operation}
use Rattle.chi_trace.specs.Explains.{IsInTime, at, is_place, nothing, times_in}
use Rattle.chi_trace.specs.Segments.{AreApart}
use Rattle.chi_trace.proofs.Orders.{ArePlaces, times_in-filter}
use Rattle.chi_trace.proofs.Places.{of_each}
use Rattle.chi_trace.proofs.MergedOrders.{none_kept}

-- an operation of the earlier stands in the whole where it stood
pub at_earlier : (a b : List Operation) (i : ℕ) → is_place a i ≡ true → at (a ++ b) i ≡ at a i
at_earlier a b i place = get_or_append_left a b nothing i (ltb-true i (length a) place)

-- and one of the later as many places on as the earlier are
pub at_later : (a b : List Operation) (j : ℕ) → at (a ++ b) (length a + j) ≡ at b j
at_later a b j =
    get_or-append_right a b (length a) (length a + j) nothing refl (omega arith)
    ∙ ap (at b) (let back : (length a + j) - length a ≡ j = omega arith in back)

-- a place of the whole that is none of the earlier is one of the later
pub later_place : (a b : List Operation) (i : ℕ) → is_place (a ++ b) i ≡ true → is_place a i ≡ false
    → (j : ℕ) × (i ≡ length a + j) × (j < length b)
later_place a b i place past =
    let above : length a ≤ i = ltb-false i (length a) past in
    let whole : length (a ++ b) ≡ length a + length b = length-append a b in
    let below : i < length (a ++ b) = ltb-true i (length (a ++ b)) place in
    (i - length a, omega arith, omega arith)

-- what a filter keeps passes its test
pub kept : (p : ℕ → Bool) (x : List ℕ) → All (λ i. p i ≡ true) (filter p x)
kept p x = of_each (λ i. p i ≡ true) (filter p x) (λ i some. by_test i (p i) (times_in-filter p x i) some)
  where
    by_test : (i : ℕ) (b : Bool) → times_in (filter p x) i ≡ cond b (times_in x i) 0 → 0 < times_in (filter p x) i → b ≡ true
    by_test i true is some = refl
    by_test i false is some = absurd (omega (arith, is, some))

-- in an order in time of the whole no later operation stands before an earlier one
pub divides : (a b : List Operation) (x : List ℕ) → AreApart a b → ArePlaces (a ++ b) x → IsInTime (a ++ b) x
    → x ≡ filter (is_place a) x ++ filter (λ i. not (is_place a i)) x
unfolding IsInTime
divides a b [] apart places h = refl
divides a b (i ∷ x) apart places h = by_test (is_place a i) refl (divides a b x apart (All-tail (λ j. is_place (a ++ b) j ≡ true) i x places) h.1)
  where
    late : is_place a i ≡ false → All (λ j. is_place a j ≡ false) x
    late past k d under = by_place (is_place a (get_or x k d)) refl
      where
        j : ℕ
        j = get_or x k d

        by_place : (c : Bool) → is_place a j ≡ c → c ≡ false
        by_place false is = refl
        by_place true is =
            let place : is_place (a ++ b) i ≡ true = places 0 i (omega arith) in
            let there = later_place a b i place past in
            let ends : (at a j).end < (at b there.0).start = apart j nothing (ltb-true j (length a) is) there.0 nothing there.2 in
            let first : (at (a ++ b) i).start ≤ (at (a ++ b) j).end = h.0 k d under in
            let start : (at (a ++ b) i).start ≡ (at b there.0).start =
            ap (λ l. (at (a ++ b) l).start) there.1 ∙ ap (λ (o : Operation). o.start) (at_later a b there.0) in
            let end : (at (a ++ b) j).end ≡ (at a j).end = ap (λ (o : Operation). o.end) (at_earlier a b j is) in absurd (omega (arith, ends, first, start, end))

    rest : List ℕ
    rest = filter (λ j. not (is_place a j)) x

    by_test : (c : Bool) → is_place a i ≡ c → x ≡ filter (is_place a) x ++ rest
        → i ∷ x ≡ cond c (i ∷ filter (is_place a) x) (filter (is_place a) x) ++ cond (not c) (i ∷ rest) rest
    by_test true is same = ap (λ z. i ∷ z) same
    by_test false is same =
        let nil : filter (is_place a) x ≡ [] = none_kept (is_place a) x (late is) in
        ap (λ z. i ∷ z) (same ∙ ap (λ z. z ++ rest) nil) ∙ ap (λ z. z ++ (i ∷ rest)) (sym nil)
