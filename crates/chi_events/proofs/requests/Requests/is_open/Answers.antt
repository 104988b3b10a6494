-- a request of a granule is outstanding where it is kept when one was taken
use Rattle.std.proofs.Common.{◌==◌, length, nat_lt, ap, ◌∙◌}
use Rattle.std.specs.List.{list_any}
use Rattle.chi_events.specs.Granules.{granule_of_request}
use Rattle.chi_events.specs.Requests.{requests_of}
use Rattle.chi_events.proofs.GranuleStarts.{any_own}
use Rattle.chi_events.proofs.requests.Requests.is_open.Goals as goal

pub returns : goal.returns
returns c =
    let granule = c.args.granule in
    c.has_start.ensures ∙ (ap (λ l. nat_lt 0 (length l)) (c.self.invariant.granules granule)
    ∙ (any_own granule (requests_of c.self.inside.by_number) ∙ ap (list_any (λ p. granule_of_request p == granule)) c.self.view_is))
