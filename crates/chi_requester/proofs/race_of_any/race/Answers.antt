-- The racers have their seats, execute their requests, and give the seats back. Then one of them had stopped, or the requests of
-- 0 are executed.
use Rattle.std.proofs.Common.{[], length, ap, refl, ◌∙◌, arith}
use Rattle.std.proofs.lemmas.Bool.{lt-ltb}
use Rattle.chi_history.specs.NumberSets.{Held, below}
use Rattle.chi_requester.specs.Race.{lines_of_all}
use Rattle.chi_requester.specs.Team.{without_to}
use Rattle.chi_requester.proofs.FamilyLemmas.{kept_zero, not_zero, whole_again, whole_rest}
use Rattle.chi_requester.proofs.RaceLemmas.{race_done, race_stopped}
use Rattle.chi_requester.proofs.RacerLemmas.{have_raced, have_returned, some_and_left}
use Rattle.chi_requester.proofs.race_of_any.race.Goals as goal

pub take_back-requires-clause-zero : goal.take_back-requires-clause-zero
take_back-requires-clause-zero g c κs lives =
    let count = length c.args.racers.now in
    let opened = (g.H.Home.opening c.args.home.now).requesters in
    ap (λ (s : Held). s 0) (c.seat_all.ensures.rest ∙ ap (without_to count) c.requires.all) ∙ kept_zero count (below opened) (lt-ltb 0 opened (omega arith))

pub take_back-requires-clause-ready : goal.take_back-requires-clause-ready
take_back-requires-clause-ready g c κs lives i d inside =
    let raced = have_raced (g.H.Home.belongs c.args.home.now) g.H.Home.held g.H.Home.seen (g.H.Home.opening c.args.home.now) c.args.policy (g.H.Home.limit c.args.home.now) c.args.requests.now
    (g.H.Home.seen c.args.seat.now) [] c.args.racers.now c.seat_all.new.racers c.for_each_mut.new.s c.seat_all.ensures.seated c.seat_all.ensures.lines (omega arith)
    (λ k e under. let turn = (c.for_each_mut.ensures k e under).1 in (turn.argument.now, turn.after_call.now, turn.argument_is, turn.left, turn.call _)) in
    some_and_left _ _ _ (raced i d inside)

pub work-requires-clause-holds : goal.work-requires-clause-holds
work-requires-clause-holds g c κs lives =
    ap (λ (s : Held). s 0) (whole_again (length c.args.racers.now) (length c.for_each_mut.new.s) (g.H.Home.opening c.args.home.now).requesters _ _ _ (omega arith) (omega arith) c.requires.all c.seat_all.ensures.rest c.take_back.ensures.held ∙ c.requires.all) ∙ lt-ltb 0 (g.H.Home.opening c.args.home.now).requesters (omega arith)

pub returns-in_err-take_back-clause-held : goal.returns-in_err-take_back-clause-held
returns-in_err-take_back-clause-held g c = whole_again (length c.args.racers.now) (length c.for_each_mut.new.s) (g.H.Home.opening c.args.home.now).requesters _ _ _ (omega arith) (omega arith) c.requires.all c.seat_all.ensures.rest c.take_back.ensures.held

pub returns-clause-held : goal.returns-clause-held
returns-clause-held g c = c.work.ensures.held ∙ whole_again (length c.args.racers.now) (length c.for_each_mut.new.s) (g.H.Home.opening c.args.home.now).requesters _ _ _ (omega arith) (omega arith) c.requires.all c.seat_all.ensures.rest c.take_back.ensures.held

pub returns-in_err-take_back-clause-race : goal.returns-in_err-take_back-clause-race
returns-in_err-take_back-clause-race g c =
    let laws = g.met.H.Home g.world.𝓛 g.world.𝓜 g.world.𝓡 ((λ s x. x), (λ x. x), (λ x. x), λ x. x) in
    let raced = have_raced (g.H.Home.belongs c.args.home.now) g.H.Home.held g.H.Home.seen (g.H.Home.opening c.args.home.now) c.args.policy (g.H.Home.limit c.args.home.now) c.args.requests.now
    (g.H.Home.seen c.args.seat.now) c.args.zero.now.items c.args.racers.now c.seat_all.new.racers c.for_each_mut.new.s c.seat_all.ensures.seated c.seat_all.ensures.lines (omega arith)
    (λ k e under. let turn = (c.for_each_mut.ensures k e under).1 in (turn.argument.now, turn.after_call.now, turn.argument_is, turn.left, turn.call _)) in
    race_stopped c.from_residual.result (not_zero (length c.args.racers.now)) (whole_rest (length c.args.racers.now) (g.H.Home.opening c.args.home.now).requesters _ _ (omega arith) c.requires.all c.seat_all.ensures.rest) (laws.seen_is_legal c.args.home.now c.take_back.new.seat c.take_back.ensures.own)
    c.from_residual.ensures.0 refl (have_returned (g.H.Home.belongs c.args.home.now) g.H.Home.held g.H.Home.seen c.args.zero.now.items c.args.racers.now c.for_each_mut.new.s c.take_back.new.racers (omega arith) raced c.seat_all.ensures.seen
    c.take_back.ensures.lines (c.in_err-take_back.ensures.team c.args.policy c.args.requests.now c.args.zero.now.items (lines_of_all c.args.zero.now.items c.args.racers.now)))

pub returns-clause-race : goal.returns-clause-race
returns-clause-race g c =
    let laws = g.met.H.Home g.world.𝓛 g.world.𝓜 g.world.𝓡 ((λ s x. x), (λ x. x), (λ x. x), λ x. x) in
    let raced = have_raced (g.H.Home.belongs c.args.home.now) g.H.Home.held g.H.Home.seen (g.H.Home.opening c.args.home.now) c.args.policy (g.H.Home.limit c.args.home.now) c.args.requests.now
    (g.H.Home.seen c.args.seat.now) c.args.zero.now.items c.args.racers.now c.seat_all.new.racers c.for_each_mut.new.s c.seat_all.ensures.seated c.seat_all.ensures.lines (omega arith)
    (λ k e under. let turn = (c.for_each_mut.ensures k e under).1 in (turn.argument.now, turn.after_call.now, turn.argument_is, turn.left, turn.call _)) in
    race_done (not_zero (length c.args.racers.now)) (whole_rest (length c.args.racers.now) (g.H.Home.opening c.args.home.now).requesters _ _ (omega arith) c.requires.all c.seat_all.ensures.rest) (laws.seen_is_legal c.args.home.now c.work.new.seat c.work.ensures.own)
    (have_returned (g.H.Home.belongs c.args.home.now) g.H.Home.held g.H.Home.seen c.args.zero.now.items c.args.racers.now c.for_each_mut.new.s c.take_back.new.racers (omega arith) raced c.seat_all.ensures.seen
    c.take_back.ensures.lines (c.in_ok-take_back.ensures.team c.args.policy c.args.requests.now c.args.zero.now.items (lines_of_all c.args.zero.now.items c.args.racers.now))) refl (λ r. refl) c.work.ensures.executed
