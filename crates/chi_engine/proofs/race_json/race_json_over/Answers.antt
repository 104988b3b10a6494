-- what is written is the transcript of the race
use Rattle.serde_json.specs.View.{view}
use Rattle.chi_requester.specs.Race.{lines_of_all}
use Rattle.chi_engine.proofs.JsonLemmas.{race_value, race_written}
use Rattle.chi_engine.proofs.race_json.race_json_over.Goals as goal

pub returns-clause-races : goal.returns-clause-races
returns-clause-races g c =
    let racers = c.race_all.new.racers in
    let zero = c.race_all.new.zero.items in
    let since = g.H.Home.seen c.race_all.new.seat in
    let raced = c.in_default-race_all.ensures in
    let is = race_value c.args.options.now.workers c.args.script.now since zero _ _ _ racers _ _ raced.count c.region.ensures raced.shown c.as_slice-2.ensures.value c.in-Ok-lines_of_race.ensures c.as_slice.ensures.value in
    race_written c.args.options.now c.args.script.now _ _ since (lines_of_all zero racers) (view c.in-Ok-transcript_value.value) _ c.write_value.result raced.raced c.in-Ok-transcript_value.ensures is c.write_value.ensures.written
