-- Each request so far is of one of 1 to 4.
use Rattle.std.proofs.Common.{◌≤◌, All}
use Rattle.chi_soak.proofs.requests.requests.Given as goal

abbrev pub invariant-places : goal.invariant-places
invariant-places g l = All (λ q. q.src ≤ 4) l.requests.items

abbrev pub invariant-workers : goal.invariant-workers
invariant-workers g l = All (λ q. q.src ≤ 4) l.requests.items
