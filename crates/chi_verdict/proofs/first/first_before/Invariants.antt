-- up to its time the granule's operations are not explained, and some states were looked at
use Rattle.chi_judge.specs.Reaches.{IsExplained}
use Rattle.chi_trace.specs.Words.{word_or_zero}
use Rattle.chi_search.specs.Looks.{LookedSome}
use Rattle.chi_verdict.proofs.first.first_before.Given as goal

abbrev pub invariant-loop-first : goal.invariant-loop-first
invariant-loop-first g l = record {
  unexplained : IsExplained l.failing.time l.ops l.failing.granule (word_or_zero l.opening l.failing.granule) → ⊥;
  looked : LookedSome g.P.Progress.looked l.initial.progress l.progress;
}

abbrev pub decreases-loop-first : goal.decreases-loop-first
decreases-loop-first g l = l.failing.time
