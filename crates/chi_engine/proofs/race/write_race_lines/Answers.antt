-- what follows the lines of the racers
use Rattle.std.proofs.Common.{refl}
use Rattle.chi_script.specs.Transcript.{text}
use Rattle.chi_engine.proofs.WritingLemmas.{puts_cut, puts_then}
use Rattle.chi_engine.proofs.race.write_race_lines.Goals as goal

pub returns-in_err-write_racers : goal.returns-in_err-write_racers
returns-in_err-write_racers g c = puts_cut _ _ _ (text c.args.zero.now) _ _ c.from_residual.ensures.0 c.in_err-write_racers.ensures refl

pub returns : goal.returns
returns g c = puts_then _ _ _ _ _ _ _ c.in_ok-write_racers.ensures c.write_lines.ensures refl
