-- points of one granule's order, behind those of other granules
use Rattle.std.proofs.Common.{◌≡◌, ℕ, ◌==◌, ◌++◌, Bool, true, false, List, [], All, append-nil, refl, sym, ap, subst, ◌∙◌, eqb-true, ne_eqb}
use Rattle.std.specs.List.Sorted.{IsNonDecreasingBy}
use Rattle.std.proofs.lemmas.Bool.{and_parts, and_right, eqb-false}
use Rattle.std.proofs.lemmas.List.Elements.{filter-append}
use Rattle.std.proofs.lemmas.List.Kept.{IsNonDecreasingBy-filter}
use Rattle.chi_trace.specs.declared.operation.Operation.{Operation}
use Rattle.chi_trace.specs.Explains.{at, is_place}
use Rattle.chi_trace.specs.Granules.{granule_of, is_of}
use Rattle.chi_verdict.specs.declared.merge_orders.Point.{Point}
use Rattle.chi_verdict.specs.Points.{AreOrdered, points_of}
use Rattle.chi_verdict.proofs.Ties.{none_kept}

-- an operation is of one granule
of_one : (ops : List Operation) (g h i : ℕ) → (g ≡ h → ⊥) → is_of ops g i ≡ true → is_of ops h i ≡ false
of_one ops g h i differ own =
    let here : granule_of (at ops i) ≡ g = eqb-true (granule_of (at ops i)) g (and_parts (is_place ops i) (granule_of (at ops i) == g) own).1 in
    and_right (is_place ops i) (granule_of (at ops i) == h) (ne_eqb (granule_of (at ops i)) h (λ there. differ (sym here ∙ there)))

-- points of one granule's order stand behind those of other granules: each granule's points still stand in their order
pub ordered_on : (ops : List Operation) (points added : List Point) (g : ℕ) → AreOrdered ops points → IsNonDecreasingBy (λ (p : Point). p.time) added
    → All (λ p. is_of ops g p.place ≡ false) points → All (λ p. is_of ops g p.place ≡ true) added → AreOrdered ops (points ++ added)
ordered_on ops points added g ordered up others own h = by_test (g == h) refl
  where
    both : points_of ops h (points ++ added) ≡ points_of ops h points ++ points_of ops h added
    both = filter-append (λ p. is_of ops h p.place) points added

    by_test : (b : Bool) → (g == h) ≡ b → IsNonDecreasingBy (λ (p : Point). p.time) (points_of ops h (points ++ added))
    by_test true same =
        let is : g ≡ h = eqb-true g h same in
        let none : points_of ops h points ≡ [] = none_kept (λ p. is_of ops h p.place) points (subst (λ k. All (λ p. is_of ops k p.place ≡ false) points) is others) in
        subst (IsNonDecreasingBy (λ (p : Point). p.time)) (sym (both ∙ ap (λ ps. ps ++ points_of ops h added) none))
        (IsNonDecreasingBy-filter (λ (p : Point). p.time) (λ p. is_of ops h p.place) added up)
    by_test false differ =
        let none : points_of ops h added ≡ [] =
        none_kept (λ p. is_of ops h p.place) added (λ k d under. of_one ops g h _ (eqb-false g h differ) (own k d under)) in
        subst (IsNonDecreasingBy (λ (p : Point). p.time)) (sym (both ∙ (ap (λ ps. points_of ops h points ++ ps) none ∙ append-nil (points_of ops h points)))) (ordered h)
