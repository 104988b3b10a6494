-- one bin more
use Rattle.chi_cover.specs.Counts.{count_in}
use Rattle.chi_cover.specs.Plan.{goal_in}
use Rattle.chi_cover.specs.PlanTexts.{bin_line}
use Rattle.chi_text.proofs.Growing.{all_parts, part_more}
use Rattle.chi_cover.proofs.table.add_each_line.Goals as goal

pub loop-bin-preserved : goal.loop-bin-preserved
loop-bin-preserved c =
    part_more (bin_line (goal_in c.args.plan.now) (count_in c.args.covered.now)) c.args.to.now.items c.args.bins.now c.loop-bin.bin-index _ c.loop-bin.to.items c.add_bin_line.new.to.items c.loop-bin-test.true c.loop-bin.invariant c.in_ok-add_bin_line.ensures

pub returns : goal.returns
returns c = all_parts (bin_line (goal_in c.args.plan.now) (count_in c.args.covered.now)) c.args.to.now.items c.args.bins.now c.loop-bin.bin-index c.loop-bin.to.items c.loop-bin-test.false c.loop-bin.invariant
