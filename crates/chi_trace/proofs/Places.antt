-- the places that stand in an order
use Rattle.std.proofs.Common.{◌≡◌, ℕ, ◌+◌, ◌<◌, ◌≤◌, ◌==◌, Bool, true, false, List, [], ◌∷◌, All, refl, ap, subst, arith, eqb-true, eq-eqb}
use Rattle.std.proofs.lemmas.List.Elements.{All-cons, All-head, All-tail}
use Rattle.chi_history.specs.History.{one_if}
use Rattle.chi_trace.specs.Explains.{times_in}

pub none : (P : ℕ → Type 0) → All P []
none P k d under = absurd (omega (arith, under))

-- what is true of each place of an order is true of a place that stands in it
pub of_member : (P : ℕ → Type 0) (x : List ℕ) (i : ℕ) → All P x → 0 < times_in x i → P i
unfolding times_in
of_member P [] i all some = absurd (omega (arith, some))
of_member P (j ∷ x) i all some = by_test (j == i) refl (of_member P x i (All-tail P j x all)) some
  where
    by_test : (b : Bool) → (j == i) ≡ b → (0 < times_in x i → P i) → 0 < one_if b + times_in x i → P i
    by_test true is rest h = subst P (eqb-true j i is) (All-head P j x all)
    by_test false is rest h = rest (omega (arith, h))

-- and the other way round
pub of_each : (P : ℕ → Type 0) (x : List ℕ) → ((i : ℕ) → 0 < times_in x i → P i) → All P x
unfolding times_in
of_each P [] h = none P
of_each P (j ∷ x) h =
    let same : one_if (j == j) ≡ 1 = ap one_if (eq-eqb j j refl) in
    All-cons P j x (h j (omega (arith, same))) (of_each P x (λ i some. h i (omega (arith, some))))

-- an order in which a place stands at most as often as a test says has only places that pass it
pub passes : (p : ℕ → Bool) (x : List ℕ) → ((i : ℕ) → times_in x i ≤ one_if (p i)) → All (λ i. p i ≡ true) x
passes p x once = of_each (λ i. p i ≡ true) x (λ i some. by_test (times_in x i) (p i) some (once i))
  where
    by_test : (n : ℕ) (b : Bool) → 0 < n → n ≤ one_if b → b ≡ true
    by_test n true some least = refl
    by_test n false some least = absurd (omega (arith, some, least))
