-- it was told the first of them, the last of which ended last
use Rattle.std.proofs.Common.{◌≡◌, ◌<◌, ◌≤◌, ℕ, ◌∷◌, [], take, length, false}
use Rattle.chi_trace.specs.Explains.{at}
use Rattle.chi_judge.specs.Judges.{Keeps}
use Rattle.chi_judge.proofs.judge.Judge.of_trace.Given as goal

abbrev pub invariant-loop-op : goal.invariant-loop-op
invariant-loop-op l = record {
  keeps : (now : ℕ) × Keeps (l.word ∷ []) (take l.op-index l.op-items) now l.judge × ((i : ℕ) → l.op-index ≤ i → i < length l.op-items → now ≤ (at l.op-items i).end);
  horizon : l.judge.horizon ≡ 0;
  latest : (i : ℕ) → l.op-index ≤ i → i < length l.op-items → l.judge.latest ≤ (at l.op-items i).end;
  goes_on : l.judge.is_stopped ≡ false;
  shown : l.judge.shown ≡ l.shown;
}
