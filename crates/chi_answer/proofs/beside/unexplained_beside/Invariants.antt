-- what is known of the granules at the places so far
use Rattle.std.proofs.Common.{◌≡◌, ◌-◌, ◌≤◌}
use Rattle.chi_search.specs.Looks.{LookedMore}
use Rattle.chi_answer.proofs.LinePlaces.{IsUpTo}
use Rattle.chi_answer.proofs.beside.unexplained_beside.Given as goal

abbrev pub invariant-loop-place : goal.invariant-loop-place
invariant-loop-place g l = record {
  up : IsUpTo l.recorded l.granule l.first l.place l.beside.items (l.budget ≡ 0);
  within : l.budget ≤ l.initial.budget;
  spent : LookedMore g.P.Progress.looked l.initial.progress l.progress (l.initial.budget - l.budget);
}
