-- the racers before the index have their seats
use Rattle.std.proofs.Common.{◌≡◌, ℕ, suc, ◌<◌, map, get_or}
use Rattle.chi_requester.specs.declared.race_of_any.Racer.{Racer}
use Rattle.chi_requester.specs.Team.{IsSeated, lines_in, without_to}
use Rattle.chi_requester.proofs.race_of_any.seat_all.Given as goal

abbrev pub invariant-loop-i : goal.invariant-loop-i
invariant-loop-i g l = record {
  own : g.H.Home.belongs l.home l.seat;
  rest : g.H.Home.held l.seat ≡ without_to l.i (g.H.Home.held l.initial.seat);
  seen : g.H.Home.seen l.seat ≡ g.H.Home.seen l.initial.seat;
  seated : (k : ℕ) (d : Racer _ _ _) → k < l.i → IsSeated (g.H.Home.belongs l.home) g.H.Home.held g.H.Home.seen (g.H.Home.seen l.initial.seat) (suc k) (get_or l.racers k d);
  lines : map lines_in l.racers ≡ map lines_in l.initial.racers;
}
