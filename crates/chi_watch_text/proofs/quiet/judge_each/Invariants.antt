-- what is found so far
use Rattle.std.proofs.Common.{◌≢◌, All}
use Rattle.std.specs.List.{AllPairs}
use Rattle.chi_search.specs.Looks.{Grew, for_verdict}
use Rattle.chi_watch_text.specs.Outcomes.{AreReachedBy, IsStillFound}
use Rattle.chi_watch_text.specs.Telling.{AreAllTold}
use Rattle.chi_watch_text.specs.Written.{found_text}
use Rattle.chi_watch_text.proofs.quiet.judge_each.Given as goal

abbrev pub invariant-loop-it : goal.invariant-loop-it
invariant-loop-it g l = record {
  told : AreAllTold (found_text l.options.answer) l.initial.found.items l.found.items (g.W.Write.contents l.initial.to) (g.W.Write.contents l.to);
  each : All (IsStillFound l.watch l.quiet l.initial.found.items) l.found.items;
  once : AllPairs (λ a b. a.granule ≢ b.granule) l.initial.found.items → AllPairs (λ a b. a.granule ≢ b.granule) l.found.items;
  reached : AreReachedBy l.watch (g.P.Progress.looked for_verdict) l.initial.progress l.progress l.options.budget l.initial.found.items l.found.items;
  looked : Grew (g.P.Progress.looked for_verdict) l.initial.progress l.progress;
}
