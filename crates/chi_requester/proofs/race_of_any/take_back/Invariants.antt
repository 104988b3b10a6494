-- the seats of the racers before the index are taken back
use Rattle.std.proofs.Common.{◌≡◌, ℕ, ◌≤◌, List, map, get_or}
use Rattle.chi_fields.specs.declared.request.Request.{Request}
use Rattle.chi_history.specs.declared.line.Line.{Line}
use Rattle.chi_history.specs.NumberSets.{union}
use Rattle.chi_requester.specs.declared.policy.Policy.{Policy}
use Rattle.chi_requester.specs.declared.race_of_any.Racer.{Racer}
use Rattle.chi_requester.specs.Race.{lines_of_all}
use Rattle.chi_requester.specs.Team.{HaveRaced, IsTeamRun, lines_in, one_to}
use Rattle.chi_requester.proofs.race_of_any.take_back.Given as goal

abbrev pub invariant-loop-racer : goal.invariant-loop-racer
invariant-loop-racer g l = record {
  own : g.H.Home.belongs l.home l.seat;
  rest : (k : ℕ) (d : Racer _ _ _) → l.racer-index ≤ k → get_or l.racers k d ≡ get_or l.initial.racers k d;
  held : g.H.Home.held l.seat ≡ union (g.H.Home.held l.initial.seat) (one_to l.racer-index);
  lines : map lines_in l.racers ≡ map lines_in l.initial.racers;
  team : (policy : Policy) (all : List Request) (zero : List Line) (lines : ℕ → List Line)
      → HaveRaced (g.H.Home.belongs l.home) g.H.Home.held g.H.Home.seen (g.H.Home.opening l.home) policy (g.H.Home.limit l.home) all (g.H.Home.seen l.initial.seat) lines l.initial.racers
      → IsTeamRun l.outcome (g.H.Home.opening l.home) policy (g.H.Home.limit l.home) all (g.H.Home.held l.initial.seat) (one_to l.racer-index) (g.H.Home.held l.seat)
      (g.H.Home.seen l.initial.seat) (g.H.Home.seen l.seat) lines (lines_of_all zero l.initial.racers);
}
