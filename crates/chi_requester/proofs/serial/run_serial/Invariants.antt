-- the requests before the index were executed
use Rattle.std.proofs.Common.{◌≡◌, take}
use Rattle.chi_requester.proofs.SerialLemmas.{Progress}
use Rattle.chi_requester.proofs.serial.run_serial.Given as goal

abbrev pub invariant-loop-request : goal.invariant-loop-request
invariant-loop-request g l = record {
  own : g.H.Home.belongs l.home l.seat;
  held : g.H.Home.held l.seat ≡ g.H.Home.held l.initial.seat;
  progress : Progress (g.H.Home.opening l.home) (take l.request-index l.requests) (g.H.Home.seen l.initial.seat) (g.H.Home.seen l.seat) l.initial.lines.items l.lines.items;
}
