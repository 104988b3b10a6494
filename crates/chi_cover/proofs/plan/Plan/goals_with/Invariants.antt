-- the goals so far
use Rattle.std.proofs.Common.{◌≡◌, map, take}
use Rattle.chi_cover.specs.Plan.{goal_by, goal_in}
use Rattle.chi_cover.proofs.plan.Plan.goals_with.Given as goal

abbrev pub invariant-loop-bin : goal.invariant-loop-bin
invariant-loop-bin l = l.goals.items ≡ map (λ bin. goal_by l.rule (goal_in l.self bin) bin) (take l.bin-index l.bin-items)
