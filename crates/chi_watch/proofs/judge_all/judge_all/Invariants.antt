-- The granules that were judged are explained or listed, and those that are listed are as it is said. The map has each that is left.
use Rattle.std.specs.BTreeMap.{get}
use Rattle.std.specs.Ordering.{nat_cmp}
use Rattle.chi_watch.proofs.Judging.{AreJudged}
use Rattle.chi_watch.proofs.judge_all.judge_all.Given as goal

abbrev pub invariant-loop-granule : goal.invariant-loop-granule
invariant-loop-granule g l = AreJudged g.P.Progress.looked l.budget (get nat_cmp l.granules) l.granules.entries l.initial.progress l.progress l.listed l.granule-iterator
