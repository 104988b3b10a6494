-- the bins so far
use Rattle.std.proofs.Common.{filter, map, take}
use Rattle.chi_trace.specs.Explains.{at}
use Rattle.chi_cover.specs.Added.{AreAdded}
use Rattle.chi_cover.specs.Traffic.{has_transaction, transaction_of}
use Rattle.chi_cover.specs.declared.bin.Bin.TheVariants.{Overlap}
use Rattle.chi_cover.proofs.traffic.add_overlaps.Given as goal

abbrev pub invariant-loop-earlier : goal.invariant-loop-earlier
invariant-loop-earlier l = AreAdded (map (λ t. Overlap t (transaction_of (at l.ops l.place).access.kind)) (filter (has_transaction l.ops l.places) (take l.earlier-index l.earlier-items))) l.initial.counts l.counts
