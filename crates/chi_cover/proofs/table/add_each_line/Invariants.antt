-- the text so far
use Rattle.std.proofs.Common.{◌≡◌, ◌++◌, flat_map, take}
use Rattle.chi_cover.specs.Counts.{count_in}
use Rattle.chi_cover.specs.Plan.{goal_in}
use Rattle.chi_cover.specs.PlanTexts.{bin_line}
use Rattle.chi_cover.proofs.table.add_each_line.Given as goal

abbrev pub invariant-loop-bin : goal.invariant-loop-bin
invariant-loop-bin l = l.to.items ≡ l.initial.to.items ++ flat_map (bin_line (goal_in l.plan) (count_in l.covered)) (take l.bin-index l.bins)
