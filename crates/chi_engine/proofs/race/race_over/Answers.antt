-- what is written of the race of the racers
use Rattle.std.proofs.Common.{ap}
use Rattle.chi_requester.specs.Race.{lines_of_all}
use Rattle.chi_engine.proofs.RaceLemmas.{race_written}
use Rattle.chi_engine.proofs.WritingLemmas.{puts_front, race_lines_are, race_text_is}
use Rattle.chi_engine.proofs.race.race_over.Goals as goal

pub returns-in-Err : goal.returns-in-Err
returns-in-Err g c =
    let racers = c.race_all.new.racers in
    let zero = c.race_all.new.zero.items in
    let told = race_lines_are c.args.options.now.workers zero racers c.in-Err.ensures.count in
    (g.H.Home.seen c.race_all.new.seat, lines_of_all zero racers, c.in-Err.ensures.cut, rw (c.as_slice.ensures.value, told) at (puts_front _ _ _ _ c.write_race_lines-written.ensures))

pub returns : goal.returns
returns g c =
    let racers = c.race_all.new.racers in
    let zero = c.race_all.new.zero.items in
    let since = g.H.Home.seen c.race_all.new.seat in
    let raced = c.in_default-race_all.ensures in
    let whole = race_text_is c.args.options.now.workers c.args.script.now since zero _ racers _ _ raced.count c.as_slice-2.ensures.value (ap (λ r. r.base) c.region.ensures) raced.shown in
    race_written c.args.options.now c.args.script.now _ _ since (lines_of_all zero racers) _ _ raced.raced (rw whole at c.write_race.ensures) c.map_err.ensures.cases
