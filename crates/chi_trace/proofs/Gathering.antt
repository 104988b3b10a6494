-- the orders of all granules woven into one
use Rattle.std.proofs.Common.{◌≡◌, ℕ, zero, suc, ◌+◌, ◌<◌, ◌≤◌, ◌==◌, nat_lt, Bool, true, false, cond, List, [], ◌∷◌, All, filter, length, refl, sym, ap, ◌∙◌, arith, eqb-true, ne_eqb, ltb-true}
use Rattle.std.proofs.lemmas.Bool.{and_parts, and_right, eqb-false, ltb-false}
use Rattle.std.proofs.lemmas.List.Elements.{All-head, All-nil, All-tail}
use Rattle.chi_trace.specs.declared.operation.Operation.{Operation}
use Rattle.chi_trace.specs.Explains.{IsInTime, IsTrace, at, is_place}
use Rattle.chi_trace.specs.Granules.{granule_of, is_of}
use Rattle.chi_trace.proofs.Orders.{ArePlaces, observed_at}
use Rattle.chi_trace.proofs.MergedOrders.{Lasts, all_merged, first_kept, in_time_woven, merge, none_kept, second_kept}

-- the orders of the granules below a number
unfoldable pub gather : List Operation → (ℕ → List ℕ) → ℕ → List ℕ
gather ts orders zero = []
gather ts orders (suc n) = merge ts (gather ts orders n) (orders n)

-- each place of the order is one of the trace, of a granule below a number
abbrev pub AreBelow : List Operation → ℕ → List ℕ → Type 0
AreBelow ts n x = All (λ i. (is_place ts i ≡ true) × (granule_of (at ts i) < n)) x

-- each is one of a granule
abbrev pub AreOf : List Operation → ℕ → List ℕ → Type 0
AreOf ts g x = All (λ i. is_of ts g i ≡ true) x

of_other : (ts : List Operation) (g i : ℕ) → (granule_of (at ts i) ≡ g → ⊥) → is_of ts g i ≡ false
of_other ts g i other = and_right (is_place ts i) (granule_of (at ts i) == g) (ne_eqb (granule_of (at ts i)) g other)

granule_is : (ts : List Operation) (g i : ℕ) → is_of ts g i ≡ true → (is_place ts i ≡ true) × (granule_of (at ts i) ≡ g)
granule_is ts g i own = let parts = and_parts (is_place ts i) (granule_of (at ts i) == g) own in (parts.0, eqb-true (granule_of (at ts i)) g parts.1)

-- a test that every place passes keeps all
all_kept : (p : ℕ → Bool) (x : List ℕ) → All (λ i. p i ≡ true) x → filter p x ≡ x
all_kept p [] h = refl
all_kept p (i ∷ x) h =
    ap (λ b. cond b (i ∷ filter p x) (filter p x)) (All-head (λ j. p j ≡ true) i x h) ∙ ap (λ z. i ∷ z) (all_kept p x (All-tail (λ j. p j ≡ true) i x h))

-- what is known of an order of the granules below a number
pub record Gathered (ts : List Operation) (orders : ℕ → List ℕ) (n : ℕ) (x : List ℕ) : Type 0 where
  pub times : IsInTime ts x
  pub below : AreBelow ts n x
  pub kept : (g : ℕ) → g < n → filter (is_of ts g) x ≡ orders g

pub gathered : (ts : List Operation) (orders : ℕ → List ℕ) → IsTrace ts → ((g : ℕ) → AreOf ts g (orders g)) → ((g : ℕ) → IsInTime ts (orders g))
    → (n : ℕ) → Gathered ts orders n (gather ts orders n)
unfolding gather IsInTime
gathered ts orders is own times zero = record {
  times = tt;
  below = All-nil (λ i. (is_place ts i ≡ true) × (granule_of (at ts i) < 0));
  kept = λ g under. absurd (omega (arith, under));
}
gathered ts orders is own times (suc n) = add (gathered ts orders is own times n)
  where
    lasts : (x : List ℕ) → AreBelow ts n x → All (Lasts ts) x
    lasts x below k d under = (observed_at ts _ is (below k d under).0).lasting

    lasts_own : All (Lasts ts) (orders n)
    lasts_own k d under = (observed_at ts _ is (granule_is ts n _ (own n k d under)).0).lasting

    add : Gathered ts orders n (gather ts orders n) → Gathered ts orders (suc n) (merge ts (gather ts orders n) (orders n))
    add h = record {
      times = in_time_woven ts (gather ts orders n) (orders n) (lasts (gather ts orders n) h.below) h.times lasts_own (times n);
      below = all_merged (λ i. (is_place ts i ≡ true) × (granule_of (at ts i) < suc n)) ts (gather ts orders n) (orders n) below here;
      kept = λ g under. by_test g under (g == n) refl;
    }
      where
        below : AreBelow ts (suc n) (gather ts orders n)
        below k d under = let each = h.below k d under in let less = each.1 in (each.0, omega (arith, less))

        here : AreBelow ts (suc n) (orders n)
        here k d under = let each = granule_is ts n _ (own n k d under) in let same = each.1 in (each.0, omega (arith, same))

        by_test : (g : ℕ) → g < suc n → (b : Bool) → (g == n) ≡ b → filter (is_of ts g) (merge ts (gather ts orders n) (orders n)) ≡ orders g
        by_test g under true same =
            let is_n : g ≡ n = eqb-true g n same in
            ap (λ k. filter (is_of ts k) (merge ts (gather ts orders n) (orders n))) is_n
            ∙ (second_kept (is_of ts n) ts (gather ts orders n) (orders n) (λ k d less. of_other ts n _ (λ there. absurd (let under_n = (h.below k d less).1 in omega (arith, under_n, there))))
            ∙ (all_kept (is_of ts n) (orders n) (own n) ∙ ap orders (sym is_n)))
        by_test g under false other =
            let differ : g ≡ n → ⊥ = eqb-false g n other in
            first_kept (is_of ts g) ts (gather ts orders n) (orders n) (λ k d less. of_other ts g _ (λ there. differ (sym there ∙ (granule_is ts n _ (own n k d less)).1)))
            ∙ h.kept g (less_than g under differ)
          where
            less_than : (g : ℕ) → g < suc n → (g ≡ n → ⊥) → g < n
            less_than g under differ = grind (arith, under, differ)

-- a number above that of each granule of the trace
unfoldable pub most : List Operation → ℕ
most [] = 0
most (op ∷ ts) = suc (granule_of op) + most ts

below_most : (ts : List Operation) (i : ℕ) → i < length ts → granule_of (at ts i) < most ts
unfolding most
below_most [] i under = absurd (omega (arith, under))
below_most (op ∷ ts) zero under = omega arith
below_most (op ∷ ts) (suc i) under = let rest : i < length ts = omega (arith, under) in let less = below_most ts i rest in omega (arith, less)

-- the orders of all granules
abbrev pub whole : List Operation → (ℕ → List ℕ) → List ℕ
whole ts orders = gather ts orders (most ts)

-- it keeps the order of each granule
pub all_gathered : (ts : List Operation) (orders : ℕ → List ℕ) → IsTrace ts → ((g : ℕ) → AreOf ts g (orders g)) → ((g : ℕ) → IsInTime ts (orders g))
    → (g : ℕ) → filter (is_of ts g) (whole ts orders) ≡ orders g
all_gathered ts orders is own times g = by_test (nat_lt g (most ts)) refl
  where
    h : Gathered ts orders (most ts) (whole ts orders)
    h = gathered ts orders is own times (most ts)

    empty : (x : List ℕ) → most ts ≤ g → AreOf ts g x → x ≡ []
    empty [] past all = refl
    empty (i ∷ x) past all =
        let one = granule_is ts g i (All-head (λ j. is_of ts g j ≡ true) i x all) in
        let under = below_most ts i (ltb-true i (length ts) one.0) in
        let same = one.1 in
        absurd (omega (arith, past, under, same))

    by_test : (b : Bool) → nat_lt g (most ts) ≡ b → filter (is_of ts g) (whole ts orders) ≡ orders g
    by_test true under = h.kept g (ltb-true g (most ts) under)
    by_test false over =
        let past : most ts ≤ g = ltb-false g (most ts) over in
        none_kept (is_of ts g) (whole ts orders) (λ k d less. of_other ts g _ (λ there. absurd (let under = (h.below k d less).1 in omega (arith, past, under, there))))
        ∙ sym (empty (orders g) past (own g))

pub whole_places : (ts : List Operation) (orders : ℕ → List ℕ) → IsTrace ts → ((g : ℕ) → AreOf ts g (orders g)) → ((g : ℕ) → IsInTime ts (orders g))
    → ArePlaces ts (whole ts orders)
whole_places ts orders is own times k d under = ((gathered ts orders is own times (most ts)).below k d under).0
