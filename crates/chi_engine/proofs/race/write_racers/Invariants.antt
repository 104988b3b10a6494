-- the lines of the racers before the index are written
use Rattle.std.proofs.Common.{take}
use Rattle.std.specs.Io.KnownBytes.{Appends}
use Rattle.chi_engine.specs.RaceTranscript.{racers_text}
use Rattle.chi_engine.proofs.race.write_racers.Given as goal

abbrev pub invariant-loop-racer : goal.invariant-loop-racer
invariant-loop-racer g l = Appends (g.W.Write.contents l.initial.to) (g.W.Write.contents l.to) (racers_text (take l.racer-index l.racers))
