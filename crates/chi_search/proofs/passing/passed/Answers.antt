-- one state more has passed the least of all
use Rattle.std.proofs.Common.{◌<◌, ◌≤◌, List, All, get_or, length, subst, arith}
use Rattle.std.specs.Prelude.{map, take}
use Rattle.std.proofs.lemmas.List.{take_all}
use Rattle.std.proofs.lemmas.List.Elements.{All-append, All-contains, All-map, All-more, All-nil, All-weaker}
use Rattle.chi_search.specs.declared.narrow.NarrowState.{NarrowState}
use Rattle.chi_search.specs.declared.state.State.{State}
use Rattle.chi_search.specs.Positions.{Position, position_of}
use Rattle.chi_search.specs.StateSets.{position_of_narrow, positions}
use Rattle.chi_search.proofs.passing.passed.Goals as goal

pub loop-state-preserved : goal.loop-state-preserved
loop-state-preserved c =
    let states = c.args.states.now.narrow.states.items in
    let below : c.loop-state.state-index < length states = omega arith in
    let least = c.min-least.result in
    let smaller : least ≤ c.loop-state.least = omega arith in
    record {
      within = omega (arith, smaller, c.loop-state.invariant.within);
      narrow = All-more (λ (s : NarrowState). least ≤ s.first) states c.loop-state.state-index (record { first = 0; settled = 0; word = 0 }) below
          (All-weaker (λ (s : NarrowState). c.loop-state.least ≤ s.first) (λ (s : NarrowState). least ≤ s.first) (λ s before. omega (arith, before, smaller))
          (take c.loop-state.state-index states) c.loop-state.invariant.narrow)
          (subst (λ (xs : List NarrowState). least ≤ (get_or xs c.loop-state.state-index (record { first = 0; settled = 0; word = 0 })).first) c.deref-state-items.ensures.value (omega arith));
    }

pub loop-state-2-init : goal.loop-state-2-init
loop-state-2-init c =
    let states = c.args.states.now.narrow.states.items in
    let whole : length states ≤ c.loop-state.state-index = omega arith in
    record {
      within = c.loop-state.invariant.within;
      narrow = subst (All (λ (s : NarrowState). c.loop-state.least ≤ s.first)) (take_all c.loop-state.state-index states whole) c.loop-state.invariant.narrow;
      wide = All-nil (λ (s : State). c.loop-state.least ≤ s.first);
    }

pub loop-state-2-preserved : goal.loop-state-2-preserved
loop-state-2-preserved c =
    let narrow = c.args.states.now.narrow.states.items in
    let wide = c.args.states.now.wide.states.items in
    let below : c.loop-state-2.state-index < length wide = omega arith in
    let least = c.min-least-in-loop-state-2.result in
    let smaller : least ≤ c.loop-state-2.least = omega arith in
    record {
      within = omega (arith, smaller, c.loop-state-2.invariant.within);
      narrow = All-weaker (λ (s : NarrowState). c.loop-state-2.least ≤ s.first) (λ (s : NarrowState). least ≤ s.first) (λ s before. omega (arith, before, smaller)) narrow c.loop-state-2.invariant.narrow;
      wide = All-more (λ (s : State). least ≤ s.first) wide c.loop-state-2.state-index c.state-item.result below
          (All-weaker (λ (s : State). c.loop-state-2.least ≤ s.first) (λ (s : State). least ≤ s.first) (λ s before. omega (arith, before, smaller))
          (take c.loop-state-2.state-index wide) c.loop-state-2.invariant.wide)
          (subst (λ (s : State). least ≤ s.first) (rw c.deref-state-items-2.ensures.value at c.state-item.is) (omega arith));
    }

pub returns-clause-passed : goal.returns-clause-passed
returns-clause-passed c p =
    let narrow = c.args.states.now.narrow.states.items in
    let wide = c.args.states.now.wide.states.items in
    let least = c.loop-state-2.least in
    let whole : length wide ≤ c.loop-state-2.state-index = omega arith in
    All-contains (λ (q : Position). c.loop-state-2.least ≤ q.first) (positions c.args.states.now) p
    (All-append (λ (q : Position). c.loop-state-2.least ≤ q.first) (map position_of_narrow narrow) (map position_of wide)
    (All-map (λ (q : Position). c.loop-state-2.least ≤ q.first) position_of_narrow narrow c.loop-state-2.invariant.narrow)
    (All-map (λ (q : Position). c.loop-state-2.least ≤ q.first) position_of wide
    (subst (All (λ (s : State). c.loop-state-2.least ≤ s.first)) (take_all c.loop-state-2.state-index wide whole) c.loop-state-2.invariant.wide)))
