-- with each of those that were found the search goes on to a word
use Rattle.std.proofs.Common.{All, Some}
use Rattle.chi_search.specs.Looks.{LookedSome}
use Rattle.chi_judge.specs.Legal.{LeadsWith}
use Rattle.chi_judge.proofs.legal.legal_replies.Given as goal

abbrev pub invariant-loop-reply : goal.invariant-loop-reply
invariant-loop-reply g l = record {
  legal : All (λ reply. LeadsWith l.before l.ops l.time l.place (Some reply)) l.legal.items;
  looked : LookedSome g.P.Progress.looked l.initial.progress l.progress;
}
