-- up to the earliest time so far the granule's operations are not explained, and some states were looked at
use Rattle.std.proofs.Common.{◌≤◌}
use Rattle.chi_search.specs.Looks.{LookedSome}
use Rattle.chi_trace.specs.Words.{word_or_zero}
use Rattle.chi_judge.specs.Reaches.{IsExplained}
use Rattle.chi_verdict.proofs.earlier.earliest.Given as goal

abbrev pub invariant-loop-op : goal.invariant-loop-op
invariant-loop-op g l = record {
  by : l.first.time ≤ l.fn.failing.time;
  unexplained : IsExplained l.first.time l.ops l.first.granule (word_or_zero l.opening l.first.granule) → ⊥;
  looked : LookedSome g.P.Progress.looked l.initial.progress l.progress;
}
