-- The seat is of the home, and holds what it held.
use Rattle.std.proofs.Common.{◌≡◌}
use Rattle.chi_example.proofs.together.add_often.Given as goal

abbrev pub invariant-adds : goal.invariant-adds
invariant-adds g l = record {
  own : g.H.Home.belongs l.home l.seat;
  held : g.H.Home.held l.seat ≡ g.H.Home.held l.initial.seat;
}
