-- what stands after a granule's operations
use Rattle.std.proofs.Common.{◌≤◌, get_or, arith}
use Rattle.std.proofs.lemmas.List.{get_or_default}
use Rattle.chi_verdict.specs.declared.grouping.Placed.{Placed}
use Rattle.chi_verdict.proofs.Ahead.{StandsAt, below_first, of_later}
use Rattle.chi_verdict.proofs.next_granule.past_granule.Goals as goal

pub returns-else-places-to-clause-later : goal.returns-else-places-to-clause-later
returns-else-places-to-clause-later c =
    let nothing : Placed = record { granule = 0; end = 0; place = 0 } in
    let first : Placed = get_or c.args.places.now c.loop-to.to nothing in
    let there : StandsAt c.args.places.now c.loop-to.to first = (c.loop-to-test.true, λ d. get_or_default c.args.places.now c.loop-to.to nothing d c.loop-to-test.true) in
    let least : c.args.granule ≤ first.granule =
    of_later (λ (p : Placed). c.args.granule ≤ p.granule) c.args.places.now c.args.from c.loop-to.to first c.requires.least c.loop-to.invariant.0 there in
    below_first (λ (p : Placed). p.granule) c.args.places.now c.loop-to.to first c.requires.places there c.args.granule (grind (arith, least, c.if-places-to.false))
