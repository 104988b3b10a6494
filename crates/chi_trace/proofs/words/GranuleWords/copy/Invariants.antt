-- the words so far are those that were copied
use Rattle.std.proofs.Common.{◌≡◌, take}
use Rattle.chi_trace.proofs.words.GranuleWords.copy.Given as goal

abbrev pub invariant-loop-told : goal.invariant-loop-told
invariant-loop-told l = l.words.items ≡ take l.told-index l.told-items
