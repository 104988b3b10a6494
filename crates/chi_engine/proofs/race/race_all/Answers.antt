-- the racers had no line, so the lines after it are those of their requests
use Rattle.std.proofs.Common.{Err, Ok, ap, refl}
use Rattle.std.proofs.lemmas.Result.{err_from_is_err_and}
use Rattle.chi_requester.specs.Race.{lines_of_all}
use Rattle.chi_requester.specs.Team.{one_to}
use Rattle.chi_engine.proofs.RaceLemmas.{none_of_all, race_fresh, raced_by}
use Rattle.chi_engine.proofs.race.race_all.Goals as goal

pub returns-in_err-race-clause-cut : goal.returns-in_err-race-clause-cut
returns-in_err-race-clause-cut g c =
    let none = none_of_all c.args.zero.now.items c.args.racers.now _ c.requires.empty refl c.requires.none in
    let p = err_from_is_err_and c.from_residual.result c.from_residual.ensures.1 in
    rw (p.1, p.2) (race_fresh {r = Err c.in_err-race.field-0.0} {s = c.args.script.now} {lines' = lines_of_all c.race.new.zero.items c.race.new.racers} c.requires.fresh c.requires.limit (ap one_to c.requires.count) c.requests-requests.ensures none c.in_err-race.ensures.race)

pub returns-clause-raced : goal.returns-clause-raced
returns-clause-raced g c =
    let none = none_of_all c.args.zero.now.items c.args.racers.now _ c.requires.empty refl c.requires.none in
    rw c.words_after.ensures.seen (raced_by (Ok c.in_ok-race.field-0) _ _ _ _ _ _ _ c.args.script.now _ _ _ _ _ (lines_of_all c.race.new.zero.items c.race.new.racers) c.requires.fresh c.requires.limit
    (ap one_to c.requires.count) c.requests-requests.ensures none refl c.in_ok-race.ensures.race)
