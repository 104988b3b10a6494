-- the lines so far
use Rattle.std.proofs.Common.{◌≡◌, ◌++◌, flat_map, take}
use Rattle.chi_answer.specs.Lines.{open_line}
use Rattle.chi_answer.proofs.stop_lines.add_overlapping.Given as goal

abbrev pub invariant-loop-op : goal.invariant-loop-op
invariant-loop-op l = l.to.items ≡ l.initial.to.items ++ flat_map open_line (take l.op-index l.overlapping)
