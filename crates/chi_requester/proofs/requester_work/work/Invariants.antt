-- the requester's requests before the index were executed
use Rattle.std.proofs.Common.{◌≡◌, take}
use Rattle.chi_requester.specs.Work.{own_requests}
use Rattle.chi_requester.proofs.RunLemmas.{ExecutedSoFar}
use Rattle.chi_requester.proofs.requester_work.work.Given as goal

abbrev pub invariant-loop-request : goal.invariant-loop-request
invariant-loop-request g l = record {
  own : g.H.Home.belongs l.home l.seat;
  held : g.H.Home.held l.seat ≡ g.H.Home.held l.initial.seat;
  so_far : ExecutedSoFar (g.H.Home.opening l.home) l.policy (g.H.Home.limit l.home) (g.H.Home.held l.initial.seat) l.src (own_requests (take l.request-index l.requests) l.src)
      (g.H.Home.seen l.initial.seat) (g.H.Home.seen l.seat) l.initial.lines.items l.lines.items;
}
