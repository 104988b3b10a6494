-- those so far
use Rattle.std.proofs.Common.{take}
use Rattle.chi_cover.specs.Refusals.{AreRefusalsAdded}
use Rattle.chi_cover.proofs.refusals.add_each.Given as goal

abbrev pub invariant-loop-refusal : goal.invariant-loop-refusal
invariant-loop-refusal l = AreRefusalsAdded (take l.refusal-index l.refusals) l.initial.counts l.counts
