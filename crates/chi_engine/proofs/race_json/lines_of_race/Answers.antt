-- the lines of one racer more
use Rattle.std.proofs.Common.{◌++◌, ap, ◌∙◌}
use Rattle.chi_engine.proofs.JsonLemmas.{lines_more}
use Rattle.chi_engine.proofs.race_json.lines_of_race.Goals as goal

pub loop-racer-preserved : goal.loop-racer-preserved
loop-racer-preserved g c =
    lines_more c.args.racers.now c.loop-racer.racer-index c.racer-item.result c.loop-racer.lines.items _ c.loop-racer-test.true c.racer-item.is c.loop-racer.invariant
    (c.in_ok-extend_from_slice.ensures.items ∙ ap (λ l. c.loop-racer.lines.items ++ l) c.as_slice.ensures.value)
