-- one line more
use Rattle.chi_engine.proofs.JsonLemmas.{objects_more}
use Rattle.chi_engine.proofs.transcript_json.line_objects.Goals as goal

pub loop-line-preserved : goal.loop-line-preserved
loop-line-preserved c =
    rw c.in_ok-push.ensures.items (objects_more c.args.lines.now c.loop-line.line-index _ c.loop-line.values.items _ c.loop-line-test.true c.loop-line.invariant c.in_ok-line_object.ensures)
