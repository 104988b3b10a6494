-- no bin has a count
use Rattle.chi_cover.specs.Counts.{count_in}
use Rattle.chi_cover.specs.Numbers.{number_of}
use Rattle.chi_cover.proofs.Lists.{zeros}
use Rattle.chi_cover.proofs.covered.Covered.new.Goals as goal

pub returns : goal.returns
unfolding count_in
returns c bin = rw (c.in_ok-vec.ensures.items_if_clones_equal (λ y same. same)) (zeros 1410 (number_of bin))
