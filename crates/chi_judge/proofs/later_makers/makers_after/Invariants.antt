-- each write starts after the time, and ends no earlier
use Rattle.std.proofs.Common.{◌<◌, ◌≤◌, All}
use Rattle.chi_judge.proofs.later_makers.makers_after.Given as goal

abbrev pub invariant-loop-op : goal.invariant-loop-op
invariant-loop-op l = record {
  later : All (λ op. l.time < op.start) l.makers.items;
  lasting : All (λ op. op.start ≤ op.end) l.makers.items;
}
