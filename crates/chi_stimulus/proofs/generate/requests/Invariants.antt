-- the first requests
use Rattle.std.proofs.Common.{◌≡◌, ◌<◌, All, length}
use Rattle.chi_stimulus.specs.Generated.{AreDecided, requesters_of}
use Rattle.chi_stimulus.specs.Object.{IsSmall}
use Rattle.chi_stimulus.proofs.generate.requests.Given as goal

abbrev pub invariant-places : goal.invariant-places
invariant-places g l = record {
  count : length l.requests.items ≡ l.place;
  decided : AreDecided l.stimulus.region l.stimulus.refused l.requests.items;
  sources : All (λ q. q.src < requesters_of l.stimulus) l.requests.items;
  small : All IsSmall l.requests.items;
}
