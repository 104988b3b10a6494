-- the goals so far
use Rattle.std.proofs.Common.{◌≡◌, Some, map, take}
use Rattle.chi_cover.proofs.plan.same_goals.Given as goal

abbrev pub invariant-loop-bin : goal.invariant-loop-bin
invariant-loop-bin l = l.goals.items ≡ map (λ bin. Some l.goal) (take l._bin-index l._bin-items)
