-- those so far
use Rattle.std.proofs.Common.{◌≡◌, filter, nat_le, take}
use Rattle.chi_cover.proofs.kept.ends_from.Given as goal

abbrev pub invariant-loop-end : goal.invariant-loop-end
invariant-loop-end l = l.left.items ≡ filter (nat_le l.time) (take l.end-index l.ends)
