-- the lines of the racers before the index
use Rattle.std.proofs.Common.{◌≡◌, flat_map, take}
use Rattle.chi_requester.specs.Team.{lines_in}
use Rattle.chi_engine.proofs.race_json.lines_of_race.Given as goal

abbrev pub invariant-loop-racer : goal.invariant-loop-racer
invariant-loop-racer g l = l.lines.items ≡ flat_map lines_in (take l.racer-index l.racers)
