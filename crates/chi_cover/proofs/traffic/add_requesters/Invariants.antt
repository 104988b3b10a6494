-- the bins so far
use Rattle.std.proofs.Common.{filter, map, take}
use Rattle.chi_trace.specs.Explains.{at}
use Rattle.chi_cover.specs.Added.{AreAdded}
use Rattle.chi_cover.specs.Traffic.{has_requester}
use Rattle.chi_cover.specs.declared.bin.Bin.TheVariants.{Requester}
use Rattle.chi_cover.proofs.traffic.add_requesters.Given as goal

abbrev pub invariant-loop-same : goal.invariant-loop-same
invariant-loop-same l = AreAdded (map Requester (filter (has_requester l.ops l.places (at l.ops l.place).src) (take l.same-index l.same-items))) l.initial.counts l.counts
