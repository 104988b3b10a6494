-- one operation more lacks a run, or makes none, and all of them: those before the first are not left
use Rattle.std.proofs.Common.{◌≡◌, ℕ, ◌<◌, ◌-◌, ◌∙◌, length, subst, sym, arith, inl, inr}
use Rattle.std.proofs.lemmas.Bool.{cases_eq, cases_lt}
use Rattle.std.proofs.lemmas.List.{get_or_default}
use Rattle.chi_trace.specs.declared.operation.Operation.{Operation}
use Rattle.chi_trace.specs.Explains.{at, nothing}
use Rattle.chi_search.specs.Makers.{CannotMake, IsUnmade, Wants, later_than}
use Rattle.chi_search.specs.Positions.{position_of}
use Rattle.chi_search.proofs.Runs.{unmade}
use Rattle.chi_search.proofs.Settling.{left_is}
use Rattle.chi_search.proofs.WordBits.{agree_to}
use Rattle.chi_search.proofs.making.+has_maker.Goals as goal
use Rattle.chi_search.proofs.making.+has_maker.Goals.{else-wanted-via-then-wanted+else-has_maker-2, else-wanted-via-else-wanted}

pub loop-place-init : goal.loop-place-init
loop-place-init t c = record {
  within = c.bound_of-place.ensures.within;
  tried = λ i from left precedes.
      let is = left_is (length c.args.problem.now.ops.now) (position_of c.args.state.now) i left in
      absurd (c.bound_of-place.ensures.late i from is.0 precedes.0);
}

pub loop-place-preserved-else-wanted : goal.loop-place-preserved-else-wanted
loop-place-preserved-else-wanted t c = record {
  within = omega (arith, c.loop-place.invariant.within);
  tried = λ i from. elim (cases_eq i (c.loop-place.place - 1)) [
    | inl same ↦
        subst (CannotMake c.args.mask c.args.problem.now.ops.now (position_of c.args.state.now) c.args.later c.args.word c.args.bits) (sym same)
        (λ left precedes. inr (record {
          wanted = c.wanted_of-wanted.result;
          within = c.wanted_of-wanted.ensures.within;
          wants = subst (λ (op : Operation). Wants op c.args.bits c.args.word c.wanted_of-wanted.result) here c.wanted_of-wanted.ensures.wants;
          unmade = c.has_maker.ensures c.if-has_maker.false;
          other = other;
        }))
    | inr apart ↦ c.loop-place.invariant.tried i (omega (arith, from, apart))
  ];
}
  where
    below : c.loop-place.place - 1 < length c.args.problem.now.ops.now
    below = omega (arith, c.loop-place.invariant.within, c.loop-place-test.true)

    here : c.index-ops-place.result ≡ at c.args.problem.now.ops.now (c.loop-place.place - 1)
    here = c.index-ops-place.is ∙ get_or_default c.args.problem.now.ops.now (c.loop-place.place - 1) c.index-ops-place.result nothing below

    other : IsUnmade c.args.mask c.args.problem.now.ops.now (position_of c.args.state.now) (later_than (c.loop-place.place - 1) c.args.later)
        c.wanted_of-wanted.result.other c.wanted_of-wanted.result.bits
    other = elim c.else-wanted.branch [
      | else-wanted-via-then-wanted+else-has_maker-2 w ↦ w.has_maker-then-wanted.ensures w.if-has_maker-2.false
      | else-wanted-via-else-wanted w ↦
          subst (λ (word : ℕ). IsUnmade c.args.mask c.args.problem.now.ops.now (position_of c.args.state.now) (later_than (c.loop-place.place - 1) c.args.later)
          word c.wanted_of-wanted.result.bits) (sym w.if-wanted.false) (c.has_maker.ensures c.if-has_maker.false)
    ]

pub loop-place-preserved : goal.loop-place-preserved
loop-place-preserved t c = record {
  within = omega (arith, c.loop-place.invariant.within);
  tried = λ i from. elim (cases_eq i (c.loop-place.place - 1)) [
    | inl same ↦
        subst (CannotMake c.args.mask c.args.problem.now.ops.now (position_of c.args.state.now) c.args.later c.args.word c.args.bits) (sym same)
        (c.may_make.ensures c.if-may_make.false c.args.mask)
    | inr apart ↦ c.loop-place.invariant.tried i (omega (arith, from, apart))
  ];
}

pub returns : goal.returns
returns t c _ =
    unmade c.args.mask c.args.problem.now.ops.now (position_of c.args.state.now) c.args.later c.args.word c.args.bits c.requires.bits
    (λ agree. c.if-word-state-eq0.false (agree_to c.args.word c.args.state.now.word c.args.bits agree))
    (λ i. elim (cases_lt i c.loop-place.place) [
      | inl before ↦ λ left. let is = left_is (length c.args.problem.now.ops.now) (position_of c.args.state.now) i left in absurd (omega (arith, is.1, before, c.loop-place-test.false))
      | inr from ↦ c.loop-place.invariant.tried i from
    ])
