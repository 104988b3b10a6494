-- what is said of those so far
use Rattle.std.proofs.Common.{◌≡◌, All, take}
use Rattle.std.specs.BTreeMap.{get}
use Rattle.std.specs.Ordering.{nat_cmp}
use Rattle.chi_search.specs.Looks.{Grew, for_verdict}
use Rattle.chi_watch.specs.Undecided.{GoesOnAt, IsAsFarIn, IsExplainedIn, undecided_of}
use Rattle.chi_watch.proofs.undecided.each_undecided.Given as goal

abbrev pub invariant-loop-granule : goal.invariant-loop-granule
invariant-loop-granule g l = record {
  go_on : All (λ n. GoesOnAt (get nat_cmp l.granules n)) l.undecided;
  granules : undecided_of l.found.items ≡ take l.granule-index l.undecided;
  explained : All (IsExplainedIn (get nat_cmp l.granules)) l.found.items;
  far : All (IsAsFarIn (g.P.Progress.looked for_verdict) l.initial.progress l.progress l.budget (get nat_cmp l.granules)) l.found.items;
  looked : Grew (g.P.Progress.looked for_verdict) l.initial.progress l.progress;
}
