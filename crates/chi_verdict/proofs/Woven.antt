-- points in the order of their times
use Rattle.std.proofs.Common.{◌≡◌, ℕ, zero, suc, ◌≤◌, List, [], ◌∷◌, All, filter, get_or, sym, ap, ◌∙◌, arith}
use Rattle.std.specs.List.Sorted.{IsNonDecreasingBy, IsStableByKey}
use Rattle.std.specs.Ordering.{nat_cmp}
use Rattle.std.proofs.lemmas.List.Elements.{All-head, All-map, All-tail}
use Rattle.std.proofs.lemmas.List.Kept.{IsNonDecreasingBy-filter}
use Rattle.chi_trace.specs.declared.operation.Operation.{Operation}
use Rattle.chi_trace.specs.Explains.{IsInTime, at}
use Rattle.chi_trace.specs.Granules.{is_of}
use Rattle.chi_verdict.specs.declared.merge_orders.Point.{Point}
use Rattle.chi_verdict.specs.Points.{AreOrdered, ArePoints, order_of, points_of}
use Rattle.chi_verdict.proofs.Ties.{agree_by_key, filter-map, filters_swap, same_order, tied}

-- the point lies between the start and the end of its operation
abbrev pub IsPointOf : List Operation → Point → Type 0
IsPointOf ops p = ((at ops p.place).start ≤ p.time) × (p.time ≤ (at ops p.place).end)

-- the time of a point
abbrev pub time_of : Point → ℕ
time_of p = p.time

-- in the order of points that do not fall, none stands before one that ended before it started
pub in_time : (ops : List Operation) (points : List Point) → ArePoints ops points → IsNonDecreasingBy time_of points
    → IsInTime ops (order_of points)
unfolding IsInTime
in_time ops [] are up = tt
in_time ops (p ∷ points) are up = (
  All-map (λ j. (at ops p.place).start ≤ (at ops j).end) (λ (q : Point). q.place) points later,
  in_time ops points (All-tail (IsPointOf ops) p points are)
      (λ i j d le within. up (suc i) (suc j) d (omega arith) (omega arith)),
)
  where
    later : All (λ (q : Point). (at ops p.place).start ≤ (at ops q.place).end) points
    later k d under =
        let start : (at ops p.place).start ≤ p.time = (All-head (IsPointOf ops) p points are).0 in
        let rise : p.time ≤ (get_or points k d).time = up zero (suc k) d (omega arith) (omega arith) in
        let end : (get_or points k d).time ≤ (at ops (get_or points k d).place).end = (are (suc k) d (omega arith)).1 in
        omega (arith, start, rise, end)

-- a stable sort by the points' times leaves each granule's operations in their order
pub parts_stay : (ops : List Operation) (points sorted : List Point) → AreOrdered ops points → IsNonDecreasingBy time_of sorted
    → IsStableByKey time_of nat_cmp points sorted → (g : ℕ)
    → filter (is_of ops g) (order_of sorted) ≡ filter (is_of ops g) (order_of points)
parts_stay ops points sorted ordered up stable g =
    filter-map (is_of ops g) (λ (p : Point). p.place) sorted ∙ (ap order_of same ∙ sym (filter-map (is_of ops g) (λ (p : Point). p.place) points))
  where
    same : points_of ops g sorted ≡ points_of ops g points
    same =
        same_order time_of (points_of ops g sorted) (points_of ops g points) (IsNonDecreasingBy-filter time_of (λ p. is_of ops g p.place) sorted up) (ordered g)
        (λ z. filters_swap (tied time_of z) (λ p. is_of ops g p.place) sorted
        ∙ (ap (filter (λ p. is_of ops g p.place)) (agree_by_key time_of points sorted stable z)
        ∙ filters_swap (λ p. is_of ops g p.place) (tied time_of z) points))
