-- the parts stay parts, and what the budget lost was looked at
use Rattle.std.proofs.Common.{◌≡◌, ◌-◌, ◌≤◌, All, length}
use Rattle.chi_search.specs.Looks.{LookedMore}
use Rattle.chi_search.specs.Parts.{IsPartOf}
use Rattle.chi_search.proofs.parts.has_dead_part.Given as goal

abbrev pub invariant-loop-place : goal.invariant-loop-place
invariant-loop-place g l = record {
  long : length l.parts ≡ length l.initial.parts;
  parts : All (IsPartOf l.problem.ops.now l.problem.final_word) l.parts;
  left : l.budget ≤ l.initial.budget;
  looked : LookedMore g.P.Progress.looked l.initial.progress l.progress (l.initial.budget - l.budget);
}
