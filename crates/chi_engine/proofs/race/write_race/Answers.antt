-- what follows the lines of the racers
use Rattle.std.proofs.Common.{◌++◌, append_assoc, sym}
use Rattle.chi_script.specs.Transcript.{granules_text, text}
use Rattle.chi_engine.specs.RaceTranscript.{racers_text}
use Rattle.chi_engine.proofs.WritingLemmas.{puts_cut, puts_then}
use Rattle.chi_engine.proofs.race.write_race.Goals as goal

pub returns-in_err-write_racers : goal.returns-in_err-write_racers
returns-in_err-write_racers g c =
    let memory = granules_text c.args.region.now.base c.args.words.now in
    puts_cut _ _ _ (text c.args.zero.now ++ memory) _ _ c.from_residual.ensures.0 c.in_err-write_racers.ensures (sym (append_assoc (racers_text c.args.racers.now) (text c.args.zero.now) memory))

pub returns : goal.returns
returns g c =
    let memory = granules_text c.args.region.now.base c.args.words.now in
    puts_then _ _ _ _ _ _ _ c.in_ok-write_racers.ensures c.write_transcript.ensures (sym (append_assoc (racers_text c.args.racers.now) (text c.args.zero.now) memory))
