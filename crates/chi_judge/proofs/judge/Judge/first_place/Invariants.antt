-- up to the high end no order explains them, and up to the one before the low end some order does, where no search was undecided
use Rattle.std.proofs.Common.{◌≡◌, ℕ, ◌+◌, ◌-◌, ◌<◌, ◌≤◌, ◌⊎◌, false, IsTrue, List}
use Rattle.chi_trace.specs.Explains.{at}
use Rattle.chi_trace.specs.declared.operation.Operation.{Operation}
use Rattle.chi_search.specs.Looks.{LookedAtLeast, LookedSome}
use Rattle.chi_judge.specs.Reaches.{IsExplained, IsJudgeOf}
use Rattle.chi_judge.proofs.judge.Judge.first_place.Given as goal

abbrev pub invariant-loop-low : goal.invariant-loop-low
invariant-loop-low g l = record {
  order : l.low ≤ l.high;
  within : l.high ≤ l.count;
  explained : (trace : List Operation) (n w : ℕ) → IsJudgeOf trace n w l.self
      → ((i : ℕ) → i + 1 ≡ l.low → IsExplained (at l.ops i).end trace n w) ⊎ (IsTrue l.undecided × LookedAtLeast g.P.Progress.looked l.initial.progress l.progress l.budget);
  unexplained : (trace : List Operation) (n w : ℕ) → IsJudgeOf trace n w l.self → l.high < l.count
      → (IsExplained (at l.ops l.high).end trace n w → ⊥) ⊎ ((l.undecided ≡ false) × LookedAtLeast g.P.Progress.looked l.initial.progress l.progress l.budget);
  looked : LookedSome g.P.Progress.looked l.initial.progress l.progress;
}

abbrev pub decreases-loop-low : goal.decreases-loop-low
decreases-loop-low g l = l.high - l.low
