-- of the first operations those that were open
use Rattle.std.proofs.Common.{◌≡◌, filter, take}
use Rattle.chi_judge.specs.Searches.{is_during}
use Rattle.chi_judge.proofs.shown.open_at.Given as goal

abbrev pub invariant-loop-op : goal.invariant-loop-op
invariant-loop-op l = l.during.items ≡ filter (is_during l.time) (take l.op-index l.kept)
