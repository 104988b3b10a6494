-- operations, each with a point in time at which it may have taken effect
use Rattle.std.specs.Prelude.{ℕ, ◌≤◌, List, map, All}
use Rattle.std.specs.List.{filter}
use Rattle.std.specs.List.Sorted.{IsNonDecreasingBy}
use Rattle.chi_trace.specs.declared.operation.Operation.{Operation}
use Rattle.chi_trace.specs.Explains.{at}
use Rattle.chi_trace.specs.Granules.{is_of}
use Rattle.chi_verdict.specs.declared.merge_orders.Point.{Point}

-- the operations in their order
abbrev pub order_of : List Point → List ℕ
order_of points = map (λ p. p.place) points

-- each point lies between the start and the end of its operation
abbrev pub ArePoints : List Operation → List Point → Type 0
ArePoints ops points = All (λ p. ((at ops p.place).start ≤ p.time) × (p.time ≤ (at ops p.place).end)) points

-- those of one granule
abbrev pub points_of : List Operation → ℕ → List Point → List Point
points_of ops g points = filter (λ p. is_of ops g p.place) points

-- of each granule the points stand in their order
abbrev pub AreOrdered : List Operation → List Point → Type 0
AreOrdered ops points = (g : ℕ) → IsNonDecreasingBy (λ (p : Point). p.time) (points_of ops g points)
