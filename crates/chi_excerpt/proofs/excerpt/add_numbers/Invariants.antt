-- the numbers so far
use Rattle.std.proofs.Common.{◌≡◌, ◌++◌, flat_map, take}
use Rattle.chi_excerpt.specs.Excerpts.{number_text}
use Rattle.chi_excerpt.proofs.excerpt.add_numbers.Given as goal

abbrev pub invariant-loop-op : goal.invariant-loop-op
invariant-loop-op l = l.to.items ≡ l.initial.to.items ++ flat_map number_text (take l.op-index l.ops)
