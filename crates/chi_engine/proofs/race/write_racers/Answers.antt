-- a fault in the lines of one racer
use Rattle.chi_engine.proofs.WritingLemmas.{puts_cut_then, racers_parted}
use Rattle.chi_engine.proofs.race.write_racers.Goals as goal

pub returns-in_err-write_lines : goal.returns-in_err-write_lines
returns-in_err-write_lines g c =
    let told = rw c.as_slice.ensures.value at c.in_err-write_lines.ensures in
    puts_cut_then _ _ _ _ _ _ _ _ c.from_residual.ensures.0 c.loop-racer.invariant told (racers_parted c.args.racers.now c.loop-racer.racer-index c.racer-item.result c.loop-racer-test.true c.racer-item.is)
