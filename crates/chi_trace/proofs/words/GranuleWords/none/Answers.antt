-- no words are in order, and have eight bytes each
use Rattle.std.proofs.Common.{arith}
use Rattle.chi_trace.specs.Words.{AreInOrder}
use Rattle.chi_trace.proofs.words.GranuleWords.none.Goals as goal

pub invariant_of-result : goal.invariant_of-result
unfolding AreInOrder
invariant_of-result c = rw c.new.ensures.items (tt, λ k d under. absurd (omega arith))
