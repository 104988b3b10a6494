-- a step on and a step back, and what the set of dead states says of the first
use Rattle.std.proofs.Common.{ℕ, [], ◌∷◌, ◌++◌, All, Some, length, refl, sym, subst, ◌∙◌, arith}
use Rattle.std.proofs.lemmas.List.Elements.{All-pop, All-push}
use Rattle.chi_search.specs.declared.choice.Choice.{Choice}
use Rattle.chi_search.specs.declared.states.States.{States}
use Rattle.chi_search.specs.Choices.{IfDead, IfStep, IfTried}
use Rattle.chi_search.specs.Positions.{IsReady, position_of}
use Rattle.chi_search.specs.Within.{AllDeadWithin, AreTriedWithin, IsDeadWithin, IsRun}
use Rattle.chi_search.proofs.Looking.{next_look}
use Rattle.chi_search.proofs.DeadStates.{more_of}
use Rattle.chi_search.proofs.WithinMoves.{IsTriedStep, dead_from, none_tried}
use Rattle.chi_search.proofs.part.lacks_order.Goals as goal

pub returns-then-has-clause-dead : goal.returns-then-has-clause-dead
returns-then-has-clause-dead g c _ =
    dead_from c.args.part.now.mask c.args.problem.now.ops.now c.args.problem.now.final_word (position_of c.args.from.now) (position_of c.in_ok-state.state) (position_of c.absorb.new.state)
    (position_of c.in_ok-start.start) c.in_ok-state.ensures c.in_ok-absorb.ensures.goes_on c.in_ok-start.ensures
    (c.requires.part.dead (position_of c.in_ok-start.start) (c.has.ensures c.if-has.true))

pub returns-in-Ended-clause-part : goal.returns-in-Ended-clause-part
returns-in-Ended-clause-part g c = record {
  run = subst IsRun (sym (c.loop-step.invariant.mask ∙ c.loop-budget.invariant.mask)) c.requires.part.run;
  dead = subst (λ (mask : ℕ). AllDeadWithin mask c.args.problem.now.ops.now c.args.problem.now.final_word c.loop-step.part.dead) (sym c.loop-step.invariant.mask)
      (subst (λ (dead : States). AllDeadWithin c.loop-budget.part.mask c.args.problem.now.ops.now c.args.problem.now.final_word dead) (sym c.loop-step.invariant.dead) c.loop-budget.invariant.dead);
}

pub loop-budget-preserved-in-Step : goal.loop-budget-preserved-in-Step
loop-budget-preserved-in-Step g c =
    let mask = c.loop-budget.part.mask in
    let tried = subst (λ (choice : Choice). IfTried choice (λ place. AllDeadWithin mask c.args.problem.now.ops.now c.args.problem.now.final_word c.loop-budget.part.dead
    → AreTriedWithin mask c.args.problem.now.ops.now c.args.problem.now.final_word (position_of c.loop-budget.state) place)) c.in-Step.is c.in_ok-choose_within.ensures.tried in
    record {
      mask = c.loop-budget.invariant.mask;
      dead = c.loop-budget.invariant.dead;
      ready = subst (λ (choice : Choice). IfStep choice (λ op. IsReady (length c.args.problem.now.ops.now) (position_of c.choose_within.new.next))) c.in-Step.is c.in_ok-choose_within.ensures.ready;
      tried = none_tried mask c.args.problem.now.ops.now c.args.problem.now.final_word (position_of c.choose_within.new.next) c.choose_within.new.next.first (omega arith);
      before = subst (All (IsTriedStep mask c.args.problem.now.ops.now c.args.problem.now.final_word)) (sym c.in_ok-push-in-Step.ensures.items)
          (All-push (IsTriedStep mask c.args.problem.now.ops.now c.args.problem.now.final_word) c.loop-budget.path.items (record { from = c.loop-budget.state; op = c.in-Step.op; tried = c.in-Step.place })
          c.loop-budget.invariant.before (record { ready = c.loop-budget.invariant.ready; tried = tried c.loop-budget.invariant.dead }));
      left = omega arith;
      looked = next_look g.P.Progress.looked c.args.progress.now c.loop-budget.progress c.look.new.self c.args.budget.now c.loop-budget.budget c.look.result c.loop-budget.invariant.left
          c.look.ensures.within c.loop-budget.invariant.looked c.look.ensures.looked;
    }

pub loop-budget-preserved : goal.loop-budget-preserved
loop-budget-preserved g c =
    let mask = c.loop-budget.part.mask in
    let dead = subst (λ (choice : Choice). IfDead choice (AllDeadWithin mask c.args.problem.now.ops.now c.args.problem.now.final_word c.loop-budget.part.dead
    → IsDeadWithin mask c.args.problem.now.ops.now c.args.problem.now.final_word (position_of c.loop-budget.state))) c.in-Dead.is c.in_ok-choose_within.ensures.dead in
    let back = All-pop (IsTriedStep mask c.args.problem.now.ops.now c.args.problem.now.final_word) (c.pop.new.self.items ++ c.in-Some.step ∷ []) c.pop.new.self.items (Some c.in-Some.step) refl
    (subst (All (IsTriedStep mask c.args.problem.now.ops.now c.args.problem.now.final_word)) c.in-Some.ensures.items c.loop-budget.invariant.before) in
    record {
      mask = c.loop-budget.invariant.mask;
      dead = more_of (IsDeadWithin mask c.args.problem.now.ops.now c.args.problem.now.final_word) c.loop-budget.part.dead c.add.new.states (position_of c.loop-budget.state) c.in_ok-add-in-Dead.ensures.has
          c.loop-budget.invariant.dead (dead c.loop-budget.invariant.dead);
      ready = back.1.ready;
      tried = back.1.tried;
      before = back.0;
      left = c.loop-budget.invariant.left;
      looked = c.loop-budget.invariant.looked;
    }

pub returns-in-None-clause-part : goal.returns-in-None-clause-part
returns-in-None-clause-part g c =
    let mask = c.loop-budget.part.mask in
    let dead = subst (λ (choice : Choice). IfDead choice (AllDeadWithin mask c.args.problem.now.ops.now c.args.problem.now.final_word c.loop-budget.part.dead
    → IsDeadWithin mask c.args.problem.now.ops.now c.args.problem.now.final_word (position_of c.loop-budget.state))) c.in-Dead.is c.in_ok-choose_within.ensures.dead in
    record {
      run = subst IsRun (sym c.loop-budget.invariant.mask) c.requires.part.run;
      dead = more_of (IsDeadWithin mask c.args.problem.now.ops.now c.args.problem.now.final_word) c.loop-budget.part.dead c.add.new.states (position_of c.loop-budget.state) c.in_ok-add-in-Dead.ensures.has
          c.loop-budget.invariant.dead (dead c.loop-budget.invariant.dead);
    }

pub returns-in-None-clause-dead : goal.returns-in-None-clause-dead
returns-in-None-clause-dead g c is =
    dead_from c.args.part.now.mask c.args.problem.now.ops.now c.args.problem.now.final_word (position_of c.args.from.now) (position_of c.in_ok-state.state) (position_of c.absorb.new.state)
    (position_of c.in_ok-start.start) c.in_ok-state.ensures c.in_ok-absorb.ensures.goes_on c.in_ok-start.ensures
    (subst (λ (mask : ℕ). IsDeadWithin mask c.args.problem.now.ops.now c.args.problem.now.final_word (position_of c.in_ok-start.start)) c.loop-budget.invariant.mask
    ((returns-in-None-clause-part g c).dead (position_of c.in_ok-start.start) (c.has-in-None.ensures is)))
