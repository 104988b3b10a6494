-- how many so far
use Rattle.std.proofs.Common.{◌≡◌, take}
use Rattle.chi_cover.specs.Counts.{count_in, covered_of}
use Rattle.chi_cover.specs.Plan.{goal_in}
use Rattle.chi_cover.proofs.table.covered_of.Given as goal

abbrev pub invariant-loop-bin : goal.invariant-loop-bin
invariant-loop-bin l = l.count ≡ covered_of (goal_in l.plan) (count_in l.covered) (take l.bin-index l.bins)
