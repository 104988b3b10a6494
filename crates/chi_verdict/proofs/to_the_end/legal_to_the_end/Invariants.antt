-- the replies so far explain nothing to the end
use Rattle.std.proofs.Common.{◌-◌, ◌≤◌, All, take}
use Rattle.chi_search.specs.Looks.{LookedMore}
use Rattle.chi_verdict.specs.ToTheEnd.{ExplainsToTheEnd}
use Rattle.chi_verdict.proofs.to_the_end.legal_to_the_end.Given as goal

abbrev pub invariant-loop-reply : goal.invariant-loop-reply
invariant-loop-reply g l = record {
  none : All (λ reply. ExplainsToTheEnd l.trace l.final_words l.blame.granule l.blame.stop.op.number reply → ⊥) (take l.reply-index l.legal);
  within : l.budget ≤ l.initial.budget;
  spent : LookedMore g.P.Progress.looked l.initial.progress l.progress (l.initial.budget - l.budget);
}
