-- one reason more
use Rattle.chi_fields.specs.Refusals.{all_refusals}
use Rattle.chi_cover.specs.Refusals.{refusal_row, refused_in}
use Rattle.chi_text.proofs.Growing.{all_parts, part_more}
use Rattle.chi_cover.proofs.refusal_rows.add_all_rows.Goals as goal

pub loop-reason-preserved : goal.loop-reason-preserved
loop-reason-preserved c =
    part_more (refusal_row (refused_in c.args.refusals.now)) c.args.to.now.items all_refusals c.loop-reason.reason-index _ c.loop-reason.to.items c.add_row.new.to.items c.loop-reason-test.true c.loop-reason.invariant c.in_ok-add_row.ensures

pub returns : goal.returns
returns c =
    all_parts (refusal_row (refused_in c.args.refusals.now)) c.args.to.now.items all_refusals c.loop-reason.reason-index c.loop-reason.to.items c.loop-reason-test.false c.loop-reason.invariant
