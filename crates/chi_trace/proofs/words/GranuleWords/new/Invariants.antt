-- the granules so far stand in order, and their words have eight bytes
use Rattle.std.proofs.Common.{take}
use Rattle.chi_trace.specs.Words.{AreWords}
use Rattle.chi_trace.proofs.InOrder.{AreRising}
use Rattle.chi_trace.proofs.words.GranuleWords.new.Given as goal

abbrev pub invariant-loop-place : goal.invariant-loop-place
invariant-loop-place l = AreRising l.words.items l.place × AreWords (take l.place l.words.items)
