-- how many so far
use Rattle.std.proofs.Common.{◌≡◌, take}
use Rattle.chi_cover.specs.Counts.{wanted_of}
use Rattle.chi_cover.specs.Plan.{goal_in}
use Rattle.chi_cover.proofs.table.wanted_of.Given as goal

abbrev pub invariant-loop-bin : goal.invariant-loop-bin
invariant-loop-bin l = l.count ≡ wanted_of (goal_in l.plan) (take l.bin-index l.bins)
