-- the operations so far, cut
use Rattle.std.proofs.Common.{◌≡◌, take}
use Rattle.chi_trace.specs.Cuts.{cut}
use Rattle.chi_trace.proofs.trace.cut.Given as goal

abbrev pub invariant-loop-op : goal.invariant-loop-op
invariant-loop-op l = l.cut_off.items ≡ cut l.time (take l.op-index l.ops)
