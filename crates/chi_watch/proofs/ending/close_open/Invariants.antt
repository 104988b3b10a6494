-- What the first requests are was told, and the others can be told, where all could be.
use Rattle.std.proofs.Common.{ℕ, All, take}
use Rattle.std.specs.BTreeMap.{get}
use Rattle.std.specs.Ordering.{nat_cmp}
use Rattle.chi_watch.specs.Endings.{AreToldTo, CanClose}
use Rattle.chi_search.specs.Looks.{Grew, for_verdict}
use Rattle.chi_watch.proofs.ToldAtTheEnd.{own_open}
use Rattle.chi_watch.proofs.ending.close_open.Given as goal

abbrev pub invariant-loop-request : goal.invariant-loop-request
invariant-loop-request g l = record {
  can : All (CanClose (get nat_cmp l.initial.granules)) l.requests → All (CanClose (get nat_cmp l.granules)) l.requests;
  told : All (CanClose (get nat_cmp l.initial.granules)) l.requests → (h : ℕ) → AreToldTo (own_open h (take l.request-index l.requests)) (get nat_cmp l.initial.granules h) (get nat_cmp l.granules h);
  looked : Grew (g.P.Progress.looked for_verdict) l.initial.progress l.progress;
}
