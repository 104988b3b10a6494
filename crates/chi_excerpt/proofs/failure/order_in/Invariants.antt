-- those so far
use Rattle.std.proofs.Common.{◌≡◌, take}
use Rattle.chi_excerpt.specs.Failures.{order_in}
use Rattle.chi_excerpt.proofs.failure.order_in.Given as goal

abbrev pub invariant-loop-place : goal.invariant-loop-place
invariant-loop-place l = l.own.items ≡ order_in l.recorded l.granule (take l.place-index l.order)
