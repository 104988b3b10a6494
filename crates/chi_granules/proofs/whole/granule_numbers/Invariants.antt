-- the numbers of the first operations' granules, and then of the first words'
use Rattle.std.proofs.Common.{◌≡◌, ◌++◌, map, take}
use Rattle.chi_trace.specs.Granules.{granule_of}
use Rattle.chi_granules.proofs.Numbers.{granule_told}
use Rattle.chi_granules.proofs.whole.granule_numbers.Given as goal

abbrev pub invariant-loop-op : goal.invariant-loop-op
invariant-loop-op l = l.granule_numbers.items ≡ map granule_of (take l.op-index l.op-items)

abbrev pub invariant-loop-told : goal.invariant-loop-told
invariant-loop-told l = l.granule_numbers.items ≡ l.initial.granule_numbers.items ++ map granule_told (take l.told-index l.told-items)
