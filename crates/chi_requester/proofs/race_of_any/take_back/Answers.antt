-- one seat more is taken back
use Rattle.std.proofs.Common.{◌≡◌, ◌≢◌, ◌<◌, suc, [], length, get_or, Option, IsSomeAnd, refl, sym, ap, subst, ◌∙◌, add-one, arith, get_or-set_other}
use Rattle.std.specs.Result.{result_and}
use Rattle.std.proofs.Math.Bool.{or-false}
use Rattle.std.proofs.lemmas.List.{get_or-map}
use Rattle.chi_requester.specs.Team.{IsOwn, lines_in}
use Rattle.chi_requester.proofs.FamilyLemmas.{not_one_to, one_more}
use Rattle.chi_requester.proofs.RacerLemmas.{map-set_same, racer_back}
use Rattle.chi_requester.proofs.TeamLemmas.{team_none}
use Rattle.chi_requester.proofs.race_of_any.take_back.Goals as goal
use Rattle.chi_requester.proofs.race_of_any.take_back.Goals.{in-Some, in_default}

pub loop-racer-init : goal.loop-racer-init
loop-racer-init g c = record {
  own = c.requires.own;
  rest = λ k d above. refl;
  held = λ i r. sym (or-false (g.H.Home.held c.args.seat.now r)) i;
  lines = refl;
  team = λ policy all zero lines raced. team_none c.requires.zero refl refl;
}

pub loop-racer-preserved : goal.loop-racer-preserved
loop-racer-preserved g c =
    let before = c.loop-racer.invariant in
    let index = c.loop-racer.racer-index in
    let d = c.racer-item.result in
    let inside : index < length c.args.racers.now = c.loop-racer-test.true in
    let within : index < length c.loop-racer.racers = omega arith in
    let same = before.rest index d (omega arith) in
    let seat = ap (λ racer. racer.seat) (sym same) ∙ sym c.take.ensures.value in
    let Own : Option g.row.H-Seat.Denot → Type 0 = λ x. IsSomeAnd x (IsOwn (g.H.Home.belongs c.args.home.now) g.H.Home.held (suc index)) in
    elim c.match-take.branch [
      | in-Some w ↦
          rw w.seat-is (record {
            own = w.rejoin.ensures.own;
            rest = λ k e above. let other : k ≢ index = omega arith in rw (get_or-set_other c.loop-racer.racers index k _ e other) (before.rest k e (omega arith));
            held = rw add-one (one_more (suc index) _ _ _ _ _ before.held (subst Own (seat ∙ w.in-Some.is) (c.requires.ready index d inside)).alone w.rejoin.ensures.held);
            lines = map-set_same lines_in _ _ _ d within refl ∙ before.lines;
            team = λ policy all zero lines raced.
                rw add-one (racer_back _ _ _ (suc index) (get_or c.args.racers.now index d) _ (seat ∙ w.in-Some.is) (raced index d inside) (sym (get_or-map lines_in c.args.racers.now index d [] inside))
                (before.team policy all zero lines raced) (not_one_to index (suc index) (omega arith)) w.rejoin.ensures.held w.rejoin.ensures.joined
                (c.and-outcome.ensures ∙ ap (λ racer. result_and c.loop-racer.outcome racer.outcome) same));
          })
      | in_default w ↦ absurd (subst Own (seat ∙ w.in_default.is) (c.requires.ready index d inside))
    ]

pub returns-clause-held : goal.returns-clause-held
returns-clause-held g c =
    let through : c.loop-racer.racer-index ≡ length c.args.racers.now = omega arith in
    rw through at c.loop-racer.invariant.held

pub returns-clause-team : goal.returns-clause-team
returns-clause-team g c policy all zero lines raced =
    let through : c.loop-racer.racer-index ≡ length c.args.racers.now = omega arith in
    rw through at (c.loop-racer.invariant.team policy all zero lines raced)
