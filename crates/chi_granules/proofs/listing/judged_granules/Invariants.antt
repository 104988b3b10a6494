-- what is found of the first granules
use Rattle.std.proofs.Common.{◌≡◌, All, map, take}
use Rattle.chi_search.specs.Looks.{LookedAtLeast, LookedSome}
use Rattle.chi_granules.specs.Judged.{IfUndecided, IsJudged}
use Rattle.chi_granules.proofs.listing.judged_granules.Given as goal

abbrev pub invariant-loop-number : goal.invariant-loop-number
invariant-loop-number g l = record {
  judged : All (IsJudged l.recorded) l.drawn.items;
  granules : map (λ d. d.granule) l.drawn.items ≡ take l.number-index l.granule_numbers;
  undecided : All (λ d. IfUndecided d (LookedAtLeast g.P.Progress.looked l.initial.progress l.progress l.budget)) l.drawn.items;
  looked : LookedSome g.P.Progress.looked l.initial.progress l.progress;
}
