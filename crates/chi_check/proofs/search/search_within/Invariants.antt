-- no more states may be looked at than the budget has, and some were
use Rattle.std.proofs.Common.{◌≤◌}
use Rattle.chi_search.specs.Looks.{Grew}
use Rattle.chi_check.proofs.search.search_within.Given as goal

abbrev pub invariant-loop : goal.invariant-loop
invariant-loop g l = record {
  within : l.budget ≤ l.options.budget;
  grew : Grew g.P.Progress.states l.initial.progress l.progress;
}
