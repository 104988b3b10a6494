-- the operations that were taken so far
use Rattle.std.proofs.Common.{◌≡◌, take}
use Rattle.chi_search.specs.Paths
use Rattle.chi_search.proofs.path.taken.Given as goal

abbrev pub invariant-loop-step : goal.invariant-loop-step
invariant-loop-step l = l.order.items ≡ Paths.taken (take l.step-index l.path)
