-- one element after another
use Rattle.std.proofs.Common.{sym, ◌∙◌}
use Rattle.chi_reading.proofs.Joined.{all_found, none_found, one_found}
use Rattle.chi_reading.proofs.requests.completed.Goals as goal

pub loop-place-init : goal.loop-place-init
loop-place-init c = none_found c.args.region.now c.args.list.now _ c.none-found.ensures

pub loop-place-preserved : goal.loop-place-preserved
loop-place-preserved c =
    let more = c.in_ok-add_request.ensures.ok in
    sym (one_found c.loop-place.place c.args.region.now c.args.list.now c.index-list-place.result _ c.loop-place-test.true c.index-list-place.is more.0 _ more.1 more.2)
    ∙ c.loop-place.invariant

pub returns-clause-ok : goal.returns-clause-ok
returns-clause-ok c = sym c.loop-place.invariant ∙ all_found c.loop-place.place c.args.region.now c.args.list.now _ c.loop-place-test.false
