-- one line more, until no number or no path is left
use Rattle.chi_cover.proofs.AddedLines.{line_more, no_number, no_path}
use Rattle.chi_cover.proofs.added_lines.add_each_line.Goals as goal

pub returns-in_default : goal.returns-in_default
returns-in_default c = no_number _ c.loop-path.rest.now c.loop-path.to.items _ c.in_default.ensures.cases c.loop-path.invariant

pub loop-path-preserved : goal.loop-path-preserved
loop-path-preserved c =
    line_more c.args.paths.now c.loop-path.path-index _ c.in-Some.number.now c.loop-path.rest.now c.in-Some.others.now c.loop-path.to.items c.add_line.new.to.items _ c.loop-path-test.true
    c.in-Some.ensures.cases.0 c.loop-path.invariant c.in_ok-add_line.ensures

pub returns : goal.returns
returns c = no_path c.args.paths.now c.loop-path.path-index c.loop-path.rest.now c.loop-path.to.items _ c.loop-path-test.false c.loop-path.invariant
