-- none of a granule was taken before the least of the times that are kept
use Rattle.std.proofs.Common.{◌≤◌, All, subst}
use Rattle.chi_events.specs.Granules.{StartsBy}
use Rattle.chi_events.specs.Requests.{requests_of}
use Rattle.chi_events.specs.declared.starts.Start.{Start}
use Rattle.chi_events.proofs.GranuleStarts.{none_before}
use Rattle.chi_events.proofs.requests.Requests.earliest.Goals as goal

pub returns-clause-starts : goal.returns-clause-starts
returns-clause-starts c =
    let granule = c.args.granule in
    let least = c.earliest_start.result in
    subst (λ os. StartsBy os granule least) c.self.view_is
    (none_before granule least (requests_of c.self.inside.by_number) (subst (All (λ (start : Start). least ≤ start.time)) (c.self.invariant.granules granule) c.earliest_start.ensures.starts))
