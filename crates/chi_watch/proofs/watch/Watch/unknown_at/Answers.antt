-- what is known of the granule is so of the events
use Rattle.std.proofs.Common.{◌≡◌, Option, Some, None, subst, ◌∙◌}
use Rattle.chi_watch.specs.Watches.{WatchValue, granule}
use Rattle.chi_watch.specs.Followed.{FollowedValue}
use Rattle.chi_watch.proofs.Taken.{at_told}
use Rattle.chi_watch.proofs.watch.Watch.unknown_at.Goals as goal

pub returns-in-Some : goal.returns-in-Some
returns-in-Some c events has =
    let found : Option FollowedValue = Some c.in-Some.kept.now in
    c.unknown_by.ensures ∙ at_told events c.args.self.now c.args.granule c.args.time found has (subst (λ (v : WatchValue). found ≡ granule v c.args.granule) c.self.view_is c.in-Some.ensures.value)

pub returns-in-None : goal.returns-in-None
returns-in-None c events has =
    let found : Option FollowedValue = None in
    at_told events c.args.self.now c.args.granule c.args.time found has (subst (λ (v : WatchValue). found ≡ granule v c.args.granule) c.self.view_is c.in-None.ensures.value)
