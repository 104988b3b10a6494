-- the word at the end has other bits, one operation more was tried, and all of them
use Rattle.std.proofs.Common.{◌≡◌, ℕ, ◌+◌, ◌<◌, ◌≤◌, List, Option, IfSome, inl, inr, length, subst, sym, ◌∙◌, arith, below_more, true≢false}
use Rattle.std.proofs.lemmas.List.{get_or_read}
use Rattle.chi_trace.specs.declared.operation.Operation.{Operation}
use Rattle.chi_trace.specs.Explains.{at, nothing}
use Rattle.chi_search.specs.declared.outcomes.Outcomes.{Outcomes}
use Rattle.chi_search.specs.Effects.{Agree}
use Rattle.chi_search.specs.Outcomes.{AreOutcomes, IfKnown}
use Rattle.chi_search.specs.Positions.{position_of}
use Rattle.chi_search.specs.Within.{ByTakingWithin, StepsTo}
use Rattle.chi_search.proofs.Paths.{are_late}
use Rattle.chi_search.proofs.Within.{turned}
use Rattle.chi_search.proofs.WithinMoves.{at_end, late_more, tried_all}
use Rattle.chi_search.proofs.WordBits.{agree_to}
use Rattle.chi_search.proofs.part.choose_within.Goals as goal
use Rattle.chi_search.proofs.part.choose_within.Goals.{else-is_left, then-is_left+in-Problem+in_ok-leads_by+else-branch+in_ok-leads_by-2+else-branch-2}

pub returns-in-Some-clause-dead : goal.returns-in-Some-clause-dead
returns-in-Some-clause-dead c all ends =
    let mask = c.args.part.now.mask in
    let past : length c.args.problem.now.ops.now ≤ c.args.state.now.first = omega arith in
    let last = at_end mask c.args.problem.now.ops.now c.args.problem.now.final_word (position_of c.args.state.now) past ends in
    let same : Agree mask c.args.state.now.word c.in-Some.seen = subst (λ (o : Option ℕ). IfSome o (λ v. Agree mask c.args.state.now.word v)) c.in-Some.is last in
    c.if-seen-state-ne0.true (agree_to c.in-Some.seen c.args.state.now.word mask (turned mask c.args.state.now.word c.in-Some.seen same))

pub loop-place-init : goal.loop-place-init
loop-place-init c all =
    late_more c.args.part.now.mask c.args.problem.now.ops.now c.args.problem.now.final_word (position_of c.args.state.now) c.args.tried c.next-place.result c.requires.tried
    (are_late c.args.problem.now.ops.now (position_of c.args.state.now) c.args.tried c.next-place.result c.index-ops-state.result (omega arith) c.index-ops-state.is c.next-place.ensures.late)

pub loop-place-preserved : goal.loop-place-preserved
loop-place-preserved c all =
    late_more c.args.part.now.mask ops c.args.problem.now.final_word (position_of c.args.state.now) (c.loop-place.place + 1) c.next-place-in-loop-place.result
    (below_more (λ i. ByTakingWithin c.args.part.now.mask ops c.args.problem.now.final_word (position_of c.args.state.now) i → ⊥) c.loop-place.place
    (c.loop-place.invariant all) none)
    (are_late ops (position_of c.args.state.now) (c.loop-place.place + 1) c.next-place-in-loop-place.result c.index-ops-state.result (omega arith) c.index-ops-state.is
    c.next-place-in-loop-place.ensures.late)
  where
    ops : List Operation
    ops = c.args.problem.now.ops.now

    -- an operation that may be taken was not one from which an order goes on
    none : ByTakingWithin c.args.part.now.mask ops c.args.problem.now.final_word (position_of c.args.state.now) c.loop-place.place → ⊥
    none taking = elim c.if-is_left.branch [
      | then-is_left+in-Problem+in_ok-leads_by+else-branch+in_ok-leads_by-2+else-branch-2 w ↦
          let read = w.index-ops-place.result in
          let same : at ops c.loop-place.place ≡ read = sym (get_or_read ops c.loop-place.place read c.loop-place-test.true w.index-ops-place.is nothing) in
          let steps = subst (λ (op : Operation). StepsTo c.args.part.now.mask op c.args.state.now.word taking.leaves) same taking.steps in
          let each = subst (λ (o : Outcomes). IfKnown o (AreOutcomes c.args.part.now.mask read c.args.state.now.word)) w.in-Problem.is w.outcomes_of-outcomes.ensures in
          elim (each taking.leaves steps) [
            | inl one ↦ w.in_ok-leads_by.ensures.dead w.if-branch.false c.args.problem.now.final_word all taking.leaves one taking.rest
            | inr other ↦ w.in_ok-leads_by-2.ensures.dead w.if-branch-2.false c.args.problem.now.final_word all taking.leaves other taking.rest
          ]
      | else-is_left w ↦ true≢false (sym taking.comes.0 ∙ sym c.is_left.ensures ∙ w.if-is_left.false)
    ]

pub returns-clause-dead : goal.returns-clause-dead
returns-clause-dead c all =
    let below : c.args.state.now.first < length c.args.problem.now.ops.now = omega arith in
    tried_all c.args.part.now.mask c.args.problem.now.ops.now c.args.problem.now.final_word (position_of c.args.state.now) c.loop-place.place c.requires.problem.sorted c.requires.ready below
    (c.loop-place.invariant all)
    (λ i from inside. absurd (omega (arith, from, inside, c.loop-place-test.false)))
    (c.in_ok-leave_out_within.ensures.dead c.if-branch-3.false c.args.problem.now.final_word all)
