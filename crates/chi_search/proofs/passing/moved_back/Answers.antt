-- one state more, moved back
use Rattle.std.proofs.Common.{◌≡◌, ◌≤◌, length, ap, arith}
use Rattle.chi_search.specs.Positions.{Position, back_by, position_of}
use Rattle.chi_search.specs.StateSets.{Has, positions}
use Rattle.chi_search.proofs.Elements.{some_end, some_start, some_step}
use Rattle.chi_search.proofs.Layers.{has_at, none_has}
use Rattle.chi_search.proofs.passing.moved_back.Goals as goal

pub overflow_sub-state : goal.overflow_sub-state
overflow_sub-state c = c.requires (position_of c.read.new.to) (has_at c.args.states.now c.loop-place.place (position_of c.read.new.to) c.in_ok-read.ensures)

pub loop-place-init : goal.loop-place-init
loop-place-init c = record {
  has = λ p.
      some_start (λ (q : Position). p ≡ back_by c.args.by q) (Has c.no_states-back.result p) (positions c.args.states.now) (none_has c.no_states-back.result p c.no_states-back.ensures);
  count = omega (arith, ap length c.no_states-back.ensures);
}

pub loop-place-preserved : goal.loop-place-preserved
loop-place-preserved c = record {
  has = λ p.
      some_step (λ (q : Position). p ≡ back_by c.args.by q) (Has c.loop-place.back p) (Has c.add_new.new.states p) (positions c.args.states.now) c.loop-place.place
      (position_of c.read.new.to) c.in_ok-read.ensures (c.loop-place.invariant.has p) (c.in_ok-add_new.ensures.has p);
  count = omega (arith, c.loop-place.invariant.count, c.in_ok-add_new.ensures.count);
}

pub returns-clause-has : goal.returns-clause-has
returns-clause-has c p =
    let whole : length (positions c.args.states.now) ≤ c.loop-place.place = omega arith in
    some_end (λ (q : Position). p ≡ back_by c.args.by q) (Has c.loop-place.back p) (positions c.args.states.now) c.loop-place.place whole (c.loop-place.invariant.has p)
