use Rattle.std.proofs.Common.{◌≡◌, sym, ap, ◌∙◌, ◌+◌, ◌*◌}
use Rattle.chi_fields.specs.Extent.{Extent, granule_of}
use Rattle.chi_lanes.specs.After.{after}
use Rattle.chi_lanes.specs.Memory.{granule_start, word_at}
use Rattle.chi_c.specs.Call.{IsAccepted, region}
use Rattle.chi_c.proofs.Granules.{start_of_granule}
use Rattle.chi_c.proofs.word.applied.Goals as goal

pub returns-clause-applied : goal.returns-clause-applied
returns-clause-applied c =
    let o = c.in_ok-asked.asked.access in
    let e : Extent = region c.args.base c.args.granules in
    let accepted : IsAccepted e o = c.in_ok-asked.ensures.accepted in
    let start : e.base + 8 * granule_of o.addr e ≡ granule_start o.addr = start_of_granule e o accepted in
    rw c.in_ok-asked.ensures.access
    (λ m memory word_is.
    let at = word_is ∙ ap (word_at m) (sym start) in (
      c.apply.ensures.changed e m accepted.is memory accepted.fits at ∙ ap (word_at (after o m)) start,
      c.apply.ensures.answered e m accepted.is memory accepted.fits at,
    ))
