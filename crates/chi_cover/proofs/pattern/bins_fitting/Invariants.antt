-- how many so far
use Rattle.std.proofs.Common.{◌≡◌, count_by, take}
use Rattle.chi_cover.specs.Names.{bin_name}
use Rattle.chi_cover.specs.Plan.{fits}
use Rattle.chi_cover.proofs.pattern.bins_fitting.Given as goal

abbrev pub invariant-loop-bin : goal.invariant-loop-bin
invariant-loop-bin l = l.count ≡ count_by (λ bin. fits l.pattern (bin_name bin)) (take l.bin-index l.bin-items)
