-- one request more
use Rattle.chi_text.proofs.Growing.{part_more}
use Rattle.chi_watch_text.specs.Texts.{waiting_line}
use Rattle.chi_watch_text.proofs.waiting_lines.add_all_waiting.Goals as goal

pub loop-it-preserved : goal.loop-it-preserved
loop-it-preserved c =
    part_more waiting_line c.args.to.now.items c.args.waiting.now c.loop-it.it-index _ c.loop-it.to.items _ c.loop-it-test.true c.loop-it.invariant
    c.in_ok-add_waiting.ensures
