-- the first so far was answered at the time, and none of the operations before has an earlier request
use Rattle.std.proofs.Common.{◌<◌, length, take}
use Rattle.chi_trace.specs.Explains.{at}
use Rattle.chi_judge.specs.Legal.{IsAnsweredAt}
use Rattle.chi_judge.specs.Shown.{IsOfFirstRequest}
use Rattle.chi_judge.proofs.shown.answered_at.Given as goal

abbrev pub invariant-loop-place : goal.invariant-loop-place
invariant-loop-place l = record {
  within : l.first < length l.ops;
  answered : IsAnsweredAt l.ops l.time l.first;
  request : IsOfFirstRequest (take l.place l.ops) l.time (at l.ops l.first).number;
}
