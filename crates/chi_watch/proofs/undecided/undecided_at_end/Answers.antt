-- it is explained as far as was found, by the states that were counted
use Rattle.std.proofs.Common.{Option, IfSome, subst}
use Rattle.chi_search.specs.Looks.{GrewBy, LookedAtLeast, for_verdict}
use Rattle.chi_search.proofs.Growing.{grew_at_least, grew_some}
use Rattle.chi_judge.proofs.AsFar.{as_far_by}
use Rattle.chi_watch.specs.Undecided.{AreExplainedAsFar}
use Rattle.chi_watch.specs.Followed.{FollowedValue}
use Rattle.chi_watch.proofs.undecided.undecided_at_end.Goals as goal

pub returns-clause-far : goal.returns-clause-far
returns-clause-far g c =
    let looked = g.P.Progress.looked in
    let old = c.args.progress.now in
    let new = c.explained_to.new.progress in
    let budget = c.args.budget in
    subst (λ (o : Option FollowedValue). IfSome o (λ f. AreExplainedAsFar (looked for_verdict) old new budget f.judge c.in_ok-explained.explained)) c.in-Some.ensures.value
    (λ trace n w is. as_far_by (LookedAtLeast looked old new budget) (GrewBy (looked for_verdict) old new budget) (grew_at_least looked old new budget) trace n w c.in_ok-explained.explained
    (c.in_ok-explained.ensures.far trace n w is))

pub returns-clause-looked : goal.returns-clause-looked
returns-clause-looked g c = grew_some g.P.Progress.looked c.args.progress.now c.explained_to.new.progress c.in_ok-explained.ensures.looked
