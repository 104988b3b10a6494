-- the points so far, and those that are still to be added
use Rattle.std.proofs.Common.{◌≡◌, ◌++◌, drop}
use Rattle.chi_verdict.proofs.Added.{timed}
use Rattle.chi_verdict.proofs.merge_orders.add_points.Given as goal

abbrev pub invariant-loop-place : goal.invariant-loop-place
invariant-loop-place l = l.points.items ++ timed l.ops l.time (drop l.place-index l.order) ≡ l.fn.points.items ++ timed l.ops 0 l.order
