-- an order of the path's operations, the path one step longer or shorter, and a first state that is dead
use Rattle.std.proofs.Common.{◌≡◌, ◌-◌, ◌≤◌, List, [], IfSome, length, take, append-nil, sym, ap, subst, ◌∙◌, arith}
use Rattle.std.proofs.lemmas.List.Elements.{All-nil}
use Rattle.chi_trace.specs.Granules.{Finishes}
use Rattle.chi_search.specs.declared.choice.Choice.{Choice}
use Rattle.chi_search.specs.declared.path.Step.{Step}
use Rattle.chi_search.specs.Choices.{IfDead, IfEnded, IfStep, IfTried}
use Rattle.chi_search.specs.Paths.{AllDead, AreTried, AreTriedBefore, IsDead, Moves, Walks, taken}
use Rattle.chi_search.specs.Positions.{IsReady, Position, is_left, position_of}
use Rattle.chi_search.proofs.Looking.{none_more, next_look, spent_after}
use Rattle.chi_search.proofs.Moves.{ended}
use Rattle.chi_search.proofs.Paths.{moves_ready, none_tried, tried_back, tried_on, walks_back, walks_end, walks_on}
use Rattle.chi_search.proofs.DeadStates.{more_dead}
use Rattle.chi_search.proofs.searching.search.Goals as goal

pub loop-budget-init : goal.loop-budget-init
unfolding Walks
loop-budget-init g c = record {
  walks = subst (λ (path : List Step). Walks c.args.problem.now.ops.now (position_of c.args.from.now) path (position_of c.in_ok-state.state)) (sym c.new-path.ensures.items)
      (sym c.in_ok-state.ensures);
  ready = subst (λ (p : Position). IsReady (length c.args.problem.now.ops.now) p) (sym c.in_ok-state.ensures) c.requires.ready;
  dead = c.requires.dead;
  tried = none_tried c.args.problem.now.ops.now c.args.problem.now.final_word (position_of c.in_ok-state.state);
  before = subst (AreTriedBefore c.args.problem.now.ops.now c.args.problem.now.final_word) (sym c.new-path.ensures.items) (All-nil _);
  parts = c.requires.parts;
  left = omega arith;
  looked = none_more g.P.Progress.looked c.args.progress.now (c.args.budget.now - c.args.budget.now) (omega arith);
}

pub returns-in-Ended-clause-order : goal.returns-in-Ended-clause-order
returns-in-Ended-clause-order g c =
    let is = subst (λ (choice : Choice). IfEnded choice ((length c.args.problem.now.ops.now ≤ c.loop-budget.state.first) × IfSome c.args.problem.now.final_word (λ seen. c.loop-budget.state.word ≡ seen)))
    c.in-Ended.is c.in_ok-decide.ensures.ended in
    let whole = walks_end c.args.problem.now.ops.now c.args.problem.now.final_word (position_of c.args.from.now) (position_of c.loop-budget.state) c.loop-budget.path.items [] c.requires.problem.sorted
    c.loop-budget.invariant.walks (ended c.args.problem.now.ops.now c.args.problem.now.final_word (position_of c.loop-budget.state) is.0 is.1) in
    subst (Finishes c.args.problem.now.ops.now (is_left (length c.args.problem.now.ops.now) (position_of c.args.from.now)) c.args.from.now.word c.args.problem.now.final_word)
    (append-nil (taken c.loop-budget.path.items) ∙ sym (rw c.deref.ensures.value at c.in_ok-order-in-Ended.ensures)) whole

pub loop-budget-preserved-in-Step : goal.loop-budget-preserved-in-Step
loop-budget-preserved-in-Step g c =
    let moves = subst (λ (choice : Choice). IfStep choice (λ op. Moves c.args.problem.now.ops.now (position_of c.loop-budget.state) op (position_of c.decide.new.next)))
    c.in-Step.is c.in_ok-decide.ensures.moves in
    let tried = subst (λ (choice : Choice). IfTried choice (λ place. AllDead c.args.problem.now.ops.now c.args.problem.now.final_word c.loop-budget.dead
    → AreTried c.args.problem.now.ops.now c.args.problem.now.final_word (position_of c.loop-budget.state) place)) c.in-Step.is c.in_ok-decide.ensures.tried in
    let less : c.decide.new.budget ≤ c.args.budget.now = omega (arith, c.in_ok-decide.ensures.spends.0, c.loop-budget.invariant.left) in
    let before_look = spent_after g.P.Progress.looked c.args.progress.now c.loop-budget.progress c.decide.new.progress c.args.budget.now c.loop-budget.budget c.decide.new.budget
    c.loop-budget.invariant.left c.in_ok-decide.ensures.spends.0 c.loop-budget.invariant.looked c.in_ok-decide.ensures.spends.1 in
    record {
      walks = subst (λ (path : List Step). Walks c.args.problem.now.ops.now (position_of c.args.from.now) path (position_of c.decide.new.next)) (sym c.in_ok-push-in-Step.ensures.items)
          (walks_on c.args.problem.now.ops.now (position_of c.args.from.now) (position_of c.decide.new.next) c.loop-budget.path.items (record { from = c.loop-budget.state; op = c.in-Step.op; tried = c.in-Step.place })
          c.loop-budget.invariant.walks moves);
      ready = subst (λ (choice : Choice). IfStep choice (λ op. IsReady (length c.args.problem.now.ops.now) (position_of c.decide.new.next))) c.in-Step.is c.in_ok-decide.ensures.ready;
      dead = c.loop-budget.invariant.dead;
      tried = none_tried c.args.problem.now.ops.now c.args.problem.now.final_word (position_of c.decide.new.next);
      before = subst (AreTriedBefore c.args.problem.now.ops.now c.args.problem.now.final_word) (sym c.in_ok-push-in-Step.ensures.items)
          (tried_on c.args.problem.now.ops.now c.args.problem.now.final_word c.loop-budget.path.items (record { from = c.loop-budget.state; op = c.in-Step.op; tried = c.in-Step.place })
          c.loop-budget.invariant.before (tried c.loop-budget.invariant.dead));
      parts = c.in_ok-decide.ensures.parts;
      left = omega (arith, less);
      looked = next_look g.P.Progress.looked c.args.progress.now c.decide.new.progress c.look.new.self c.args.budget.now c.decide.new.budget c.look.result less
          c.look.ensures.within before_look c.look.ensures.looked;
    }

-- begun again, with the states that are dead
pub loop-budget-preserved-then-budget-due : goal.loop-budget-preserved-then-budget-due
unfolding Walks
loop-budget-preserved-then-budget-due g c =
    let less : c.decide.new.budget ≤ c.args.budget.now = omega (arith, c.in_ok-decide.ensures.spends.0, c.loop-budget.invariant.left) in
    let before_look = spent_after g.P.Progress.looked c.args.progress.now c.loop-budget.progress c.decide.new.progress c.args.budget.now c.loop-budget.budget c.decide.new.budget
    c.loop-budget.invariant.left c.in_ok-decide.ensures.spends.0 c.loop-budget.invariant.looked c.in_ok-decide.ensures.spends.1 in
    record {
      walks = subst (λ (path : List Step). Walks c.args.problem.now.ops.now (position_of c.args.from.now) path (position_of c.in_ok-state-in-Step.state))
          (sym c.new-path-then-budget-due.ensures.items) (sym c.in_ok-state-in-Step.ensures);
      ready = subst (λ (p : Position). IsReady (length c.args.problem.now.ops.now) p) (sym c.in_ok-state-in-Step.ensures) c.requires.ready;
      dead = c.loop-budget.invariant.dead;
      tried = none_tried c.args.problem.now.ops.now c.args.problem.now.final_word (position_of c.in_ok-state-in-Step.state);
      before = subst (AreTriedBefore c.args.problem.now.ops.now c.args.problem.now.final_word) (sym c.new-path-then-budget-due.ensures.items) (All-nil _);
      parts = c.in_ok-decide.ensures.parts;
      left = omega (arith, less);
      looked = next_look g.P.Progress.looked c.args.progress.now c.decide.new.progress c.look.new.self c.args.budget.now c.decide.new.budget c.look.result less
          c.look.ensures.within before_look c.look.ensures.looked;
    }

pub loop-budget-preserved : goal.loop-budget-preserved
loop-budget-preserved g c =
    let back = walks_back c.args.problem.now.ops.now (position_of c.args.from.now) (position_of c.loop-budget.state) c.pop.new.self.items c.in-Some.step
    (subst (λ (path : List Step). Walks c.args.problem.now.ops.now (position_of c.args.from.now) path (position_of c.loop-budget.state)) c.in-Some.ensures.items c.loop-budget.invariant.walks) in
    let dead = subst (λ (choice : Choice). IfDead choice (AllDead c.args.problem.now.ops.now c.args.problem.now.final_word c.loop-budget.dead → IsDead c.args.problem.now.ops.now c.args.problem.now.final_word (position_of c.loop-budget.state)))
    c.in-Dead.is c.in_ok-decide.ensures.dead in
    let before = tried_back c.args.problem.now.ops.now c.args.problem.now.final_word c.pop.new.self.items c.in-Some.step
    (subst (AreTriedBefore c.args.problem.now.ops.now c.args.problem.now.final_word) c.in-Some.ensures.items c.loop-budget.invariant.before) in
    record {
      walks = back.0;
      ready = moves_ready c.args.problem.now.ops.now (position_of c.in-Some.step.from) (position_of c.loop-budget.state) c.in-Some.step.op back.1;
      dead = more_dead c.args.problem.now.ops.now c.args.problem.now.final_word c.loop-budget.dead c.add.new.states (position_of c.loop-budget.state) c.in_ok-add-in-Dead.ensures.has c.loop-budget.invariant.dead
          (dead c.loop-budget.invariant.dead);
      tried = before.1;
      before = before.0;
      parts = c.in_ok-decide.ensures.parts;
      left = omega (arith, c.in_ok-decide.ensures.spends.0, c.loop-budget.invariant.left);
      looked = spent_after g.P.Progress.looked c.args.progress.now c.loop-budget.progress c.decide.new.progress c.args.budget.now c.loop-budget.budget c.decide.new.budget
          c.loop-budget.invariant.left c.in_ok-decide.ensures.spends.0 c.loop-budget.invariant.looked c.in_ok-decide.ensures.spends.1;
    }

pub returns-in-None-clause-nothing : goal.returns-in-None-clause-nothing
unfolding Walks
returns-in-None-clause-nothing g c ends =
    let empty : c.loop-budget.path.items ≡ [] =
    c.in-None.ensures.items ∙ append-nil c.pop.new.self.items ∙ c.in-None.ensures.rest ∙ ap (λ n. take (n - 1) c.loop-budget.path.items) c.in-None.ensures.cases.0 in
    let here : position_of c.args.from.now ≡ position_of c.loop-budget.state =
    subst (λ (path : List Step). Walks c.args.problem.now.ops.now (position_of c.args.from.now) path (position_of c.loop-budget.state)) empty c.loop-budget.invariant.walks in
    let dead = subst (λ (choice : Choice). IfDead choice (AllDead c.args.problem.now.ops.now c.args.problem.now.final_word c.loop-budget.dead → IsDead c.args.problem.now.ops.now c.args.problem.now.final_word (position_of c.loop-budget.state)))
    c.in-Dead.is c.in_ok-decide.ensures.dead in
    subst (IsDead c.args.problem.now.ops.now c.args.problem.now.final_word) (sym here) (dead c.loop-budget.invariant.dead) ends

pub returns-in-None-clause-dead : goal.returns-in-None-clause-dead
returns-in-None-clause-dead g c =
    let dead = subst (λ (choice : Choice). IfDead choice (AllDead c.args.problem.now.ops.now c.args.problem.now.final_word c.loop-budget.dead → IsDead c.args.problem.now.ops.now c.args.problem.now.final_word (position_of c.loop-budget.state)))
    c.in-Dead.is c.in_ok-decide.ensures.dead in
    more_dead c.args.problem.now.ops.now c.args.problem.now.final_word c.loop-budget.dead c.add.new.states (position_of c.loop-budget.state) c.in_ok-add-in-Dead.ensures.has c.loop-budget.invariant.dead
    (dead c.loop-budget.invariant.dead)
