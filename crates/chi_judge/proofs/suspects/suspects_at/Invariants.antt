-- each that was found is one, and so far each that is one was found
use Rattle.std.proofs.Common.{◌<◌, All, length}
use Rattle.chi_search.specs.Looks.{LookedSome}
use Rattle.chi_judge.specs.Legal.{IsSuspectAt, MayBeSuspectAt}
use Rattle.chi_judge.proofs.Found.{AreFirst}
use Rattle.chi_judge.proofs.suspects.suspects_at.Given as goal

abbrev pub invariant-loop-place : goal.invariant-loop-place
invariant-loop-place g l = record {
  within : All (λ i. i < length l.ops) l.places.items;
  suspects : All (IsSuspectAt l.before l.ops l.time) l.places.items;
  all : AreFirst g.P.Progress.looked l.initial.progress l.progress l.budget (MayBeSuspectAt l.before l.ops l.time) l.place l.places.items;
  looked : LookedSome g.P.Progress.looked l.initial.progress l.progress;
}
