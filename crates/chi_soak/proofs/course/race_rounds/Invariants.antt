-- The seat is of the home, and holds what it held.
use Rattle.std.proofs.Common.{◌≡◌}
use Rattle.chi_soak.proofs.course.race_rounds.Given as goal

abbrev pub invariant-rounds : goal.invariant-rounds
invariant-rounds g l = record {
  own : g.H.Home.belongs l.home l.seat;
  held : g.H.Home.held l.seat ≡ g.H.Home.held l.initial.seat;
}
