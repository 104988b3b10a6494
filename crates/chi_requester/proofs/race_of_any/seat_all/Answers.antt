-- one racer more has its seat
use Rattle.std.proofs.Common.{refl, ap, ◌∙◌, ◌+◌, ◌<◌, suc, length, add-one, arith}
use Rattle.std.proofs.lemmas.Bool.{lt-ltb}
use Rattle.chi_history.specs.NumberSets.{Held, without}
use Rattle.chi_requester.specs.Team.{IsSeated, lines_in}
use Rattle.chi_requester.proofs.FamilyLemmas.{kept_above}
use Rattle.chi_requester.proofs.RacerLemmas.{map-set_same, set_more}
use Rattle.chi_requester.proofs.race_of_any.seat_all.Goals as goal

pub split-requires-clause-holds : goal.split-requires-clause-holds
split-requires-clause-holds g c =
    let number = c.loop-i.i + 1 in
    let opened = ap (λ (s : Held). s number) c.requires.all ∙ lt-ltb number (g.H.Home.opening c.args.home.now).requesters (omega arith) in
    ap (λ (s : Held). s number) c.loop-i.invariant.rest ∙ kept_above c.loop-i.i number (g.H.Home.held c.args.seat.now) (omega arith) opened

pub loop-i-preserved : goal.loop-i-preserved
loop-i-preserved g c =
    let before = c.loop-i.invariant in
    let inside : c.loop-i.i < length c.loop-i.racers = omega arith in
    record {
      own = c.split.ensures.own.0;
      rest = rw add-one (c.split.ensures.rest ∙ rw add-one (ap (without (suc c.loop-i.i)) before.rest));
      seen = c.split.ensures.seen.0 ∙ before.seen;
      seated = set_more (λ k racer. IsSeated (g.H.Home.belongs c.args.home.now) g.H.Home.held g.H.Home.seen (g.H.Home.seen c.args.seat.now) (suc k) racer) _ _ _ inside before.seated
          (record { own = c.split.ensures.own.1; alone = rw (← add-one) c.split.ensures.alone }, c.split.ensures.seen.1 ∙ before.seen);
      lines = map-set_same lines_in _ _ _ c.index-racers-i.result inside refl ∙ before.lines;
    }
