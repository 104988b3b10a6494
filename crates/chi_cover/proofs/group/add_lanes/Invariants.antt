-- the bins so far
use Rattle.std.proofs.Common.{◌≡◌, ◌==◌, ◌%◌, ◌++◌, filter, map}
use Rattle.std.specs.List.{range_with_len}
use Rattle.chi_cover.specs.declared.bin.Bin.TheVariants.{Operand}
use Rattle.chi_cover.proofs.group.add_lanes.Given as goal

abbrev pub invariant-loop-lane : goal.invariant-loop-lane
invariant-loop-lane l = l.to.items ≡ l.initial.to.items ++ map (Operand l.kind l.endian l.len) (filter (λ lane. lane % l.len == 0) (range_with_len 0 l.lane))
