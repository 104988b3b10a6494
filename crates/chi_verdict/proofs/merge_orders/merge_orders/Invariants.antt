-- the loop has pushed the places of the points so far
use Rattle.std.proofs.Common.{◌≡◌, take}
use Rattle.chi_verdict.specs.Points.{order_of}
use Rattle.chi_verdict.proofs.merge_orders.merge_orders.Given as goal

abbrev pub invariant-loop-point : goal.invariant-loop-point
invariant-loop-point l = l.order.items ≡ order_of (take l.point-index l.point-items)
