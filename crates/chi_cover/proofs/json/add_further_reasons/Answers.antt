-- one reason more
use Rattle.chi_cover.specs.Json.{further, reason_json}
use Rattle.chi_cover.specs.Refusals.{refused_in}
use Rattle.chi_text.proofs.Growing.{all_parts, part_more}
use Rattle.chi_cover.proofs.json.add_further_reasons.Goals as goal

pub loop-reason-preserved : goal.loop-reason-preserved
loop-reason-preserved c =
    part_more (further (reason_json (refused_in c.args.refusals.now))) c.args.to.now.items c.args.reasons.now c.loop-reason.reason-index _ c.loop-reason.to.items c.add_further_reason.new.to.items c.loop-reason-test.true c.loop-reason.invariant c.in_ok-add_further_reason.ensures

pub returns : goal.returns
returns c =
    all_parts (further (reason_json (refused_in c.args.refusals.now))) c.args.to.now.items c.args.reasons.now c.loop-reason.reason-index c.loop-reason.to.items c.loop-reason-test.false c.loop-reason.invariant
