-- what is known of the granule is so of the events
use Rattle.std.proofs.Common.{◌≡◌, Option, Some, None, subst, ◌∙◌}
use Rattle.chi_watch.specs.Watches.{WatchValue, granule}
use Rattle.chi_watch.specs.Followed.{FollowedValue}
use Rattle.chi_watch.proofs.Taken.{since_told}
use Rattle.chi_watch.proofs.watch.Watch.unknown_since.Goals as goal

pub returns-in-Some-clause-told : goal.returns-in-Some-clause-told
returns-in-Some-clause-told c events has =
    let found : Option FollowedValue = Some c.in-Some.kept.now in
    c.unknown_since.ensures ∙ since_told events c.args.self.now c.args.granule found has (subst (λ (v : WatchValue). found ≡ granule v c.args.granule) c.self.view_is c.in-Some.ensures.value)

pub returns-in-None-clause-told : goal.returns-in-None-clause-told
returns-in-None-clause-told c events has =
    let found : Option FollowedValue = None in
    since_told events c.args.self.now c.args.granule found has (subst (λ (v : WatchValue). found ≡ granule v c.args.granule) c.self.view_is c.in-None.ensures.value)
