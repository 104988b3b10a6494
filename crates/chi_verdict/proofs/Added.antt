-- the operations of an order in time, each at the latest start of it and of those before it
use Rattle.std.proofs.Common.{◌≡◌, ℕ, zero, suc, ◌≤◌, max, true, List, [], ◌∷◌, All, get_or, refl, ap, arith}
use Rattle.std.specs.List.Sorted.{IsNonDecreasingBy}
use Rattle.std.proofs.lemmas.List.Elements.{All-cons, All-head, All-nil, All-tail, All-weaker}
use Rattle.chi_trace.specs.declared.operation.Operation.{Operation}
use Rattle.chi_trace.specs.Explains.{IsInTime, IsTrace, at, is_place}
use Rattle.chi_trace.proofs.Orders.{observed_at}
use Rattle.chi_verdict.specs.declared.merge_orders.Point.{Point}
use Rattle.chi_verdict.specs.Points.{ArePoints, order_of}
use Rattle.chi_verdict.proofs.Woven.{IsPointOf, time_of}

-- the points of these, none earlier than a time
abbrev pub timed : List Operation → ℕ → List ℕ → List Point
timed ops time [] = []
timed ops time (i ∷ order) = record { time = max time (at ops i).start; place = i } ∷ timed ops (max time (at ops i).start) order

pub order_of-timed : (ops : List Operation) (time : ℕ) (order : List ℕ) → order_of (timed ops time order) ≡ order
order_of-timed ops time [] = refl
order_of-timed ops time (i ∷ order) = ap (λ rest. i ∷ rest) (order_of-timed ops (max time (at ops i).start) order)

-- each ends no earlier than a time
abbrev pub EndFrom : List Operation → ℕ → List ℕ → Type 0
EndFrom ops time order = All (λ j. time ≤ (at ops j).end) order

-- and none of the rest ends before that or before this one started
ends_from : (ops : List Operation) (time i : ℕ) (order : List ℕ) → EndFrom ops time (i ∷ order) → IsInTime ops (i ∷ order)
    → EndFrom ops (max time (at ops i).start) order
unfolding IsInTime
ends_from ops time i order ends h k d under =
    let before : time ≤ (at ops (get_or order k d)).end = All-tail (λ j. time ≤ (at ops j).end) i order ends k d under in
    let own : (at ops i).start ≤ (at ops (get_or order k d)).end = h.0 k d under in
    omega (arith, before, own)

pub are_points : (ops : List Operation) (time : ℕ) (order : List ℕ) → IsTrace ops → All (λ i. is_place ops i ≡ true) order → IsInTime ops order
    → EndFrom ops time order → ArePoints ops (timed ops time order)
unfolding IsInTime
are_points ops time [] is places h ends = All-nil (IsPointOf ops)
are_points ops time (i ∷ order) is places h ends =
    All-cons (IsPointOf ops) (record { time = max time (at ops i).start; place = i }) (timed ops (max time (at ops i).start) order) here
    (are_points ops (max time (at ops i).start) order is (All-tail (λ j. is_place ops j ≡ true) i order places) h.1 (ends_from ops time i order ends h))
  where
    here : ((at ops i).start ≤ max time (at ops i).start) × (max time (at ops i).start ≤ (at ops i).end)
    here =
        let lasts : (at ops i).start ≤ (at ops i).end = (observed_at ops i is (All-head (λ j. is_place ops j ≡ true) i order places)).lasting in
        let end : time ≤ (at ops i).end = All-head (λ j. time ≤ (at ops j).end) i order ends in
        (omega arith, omega (arith, lasts, end))

-- none is earlier than the time
none_earlier : (ops : List Operation) (time : ℕ) (order : List ℕ) → All (λ (p : Point). time ≤ p.time) (timed ops time order)
none_earlier ops time [] = All-nil (λ (p : Point). time ≤ p.time)
none_earlier ops time (i ∷ order) =
    let start : ℕ = max time (at ops i).start in
    let rest : List Point = timed ops start order in
    All-cons (λ (p : Point). time ≤ p.time) (record { time = start; place = i }) rest (omega arith)
    (All-weaker (λ (p : Point). start ≤ p.time) (λ (p : Point). time ≤ p.time) (λ p later. omega (arith, later)) rest (none_earlier ops start order))

-- and they do not fall
pub rises : (ops : List Operation) (time : ℕ) (order : List ℕ) → IsNonDecreasingBy time_of (timed ops time order)
rises ops time [] i j d le within = absurd (omega (arith, within))
rises ops time (k ∷ order) zero zero d le within = omega arith
rises ops time (k ∷ order) zero (suc j) d le within = none_earlier ops (max time (at ops k).start) order j d (omega (arith, within))
rises ops time (k ∷ order) (suc i) zero d le within = absurd (omega (arith, le))
rises ops time (k ∷ order) (suc i) (suc j) d le within = rises ops (max time (at ops k).start) order i j d (omega (arith, le)) (omega (arith, within))
