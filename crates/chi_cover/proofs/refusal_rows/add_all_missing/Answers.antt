-- one reason more
use Rattle.chi_fields.specs.Refusals.{all_refusals}
use Rattle.chi_cover.specs.Refusals.{missing_refusal, refused_in}
use Rattle.chi_text.proofs.Growing.{all_parts, part_more}
use Rattle.chi_cover.proofs.refusal_rows.add_all_missing.Goals as goal

pub loop-reason-preserved : goal.loop-reason-preserved
loop-reason-preserved c =
    part_more (missing_refusal (refused_in c.args.refusals.now)) c.args.to.now.items all_refusals c.loop-reason.reason-index _ c.loop-reason.to.items c.add_missing.new.to.items c.loop-reason-test.true c.loop-reason.invariant c.in_ok-add_missing.ensures

pub returns : goal.returns
returns c =
    all_parts (missing_refusal (refused_in c.args.refusals.now)) c.args.to.now.items all_refusals c.loop-reason.reason-index c.loop-reason.to.items c.loop-reason-test.false c.loop-reason.invariant
