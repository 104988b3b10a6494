-- what is said of those so far
use Rattle.std.proofs.Common.{◌≡◌, All, take}
use Rattle.std.specs.BTreeMap.{get}
use Rattle.std.specs.Ordering.{nat_cmp}
use Rattle.chi_search.specs.Looks.{Grew, for_verdict}
use Rattle.chi_watch.specs.Reaching.{IsFoundIn, IsReachedIn, granules_of}
use Rattle.chi_watch.proofs.ending.each_found_at_end.Given as goal

abbrev pub invariant-loop-granule : goal.invariant-loop-granule
invariant-loop-granule g l = record {
  granules : granules_of l.found.items ≡ take l.granule-index l.unexplained;
  found : All (IsFoundIn (get nat_cmp l.granules)) l.found.items;
  undecided : All (IsReachedIn (g.P.Progress.looked for_verdict) l.initial.progress l.progress l.budget (get nat_cmp l.granules)) l.found.items;
  looked : Grew (g.P.Progress.looked for_verdict) l.initial.progress l.progress;
}
