-- a state that waits, or the states that follow one
use Rattle.std.proofs.Common.{◌≡◌, ℕ, ◌⊎◌, ◌↔◌, false, List, ◌++◌, Option, Some, is_some, subst, rules}
use Rattle.std.proofs.lemmas.Result.{on_ok_weaker}
use Rattle.chi_trace.specs.declared.operation.Operation.{Operation}
use Rattle.chi_trace.specs.Explains.{at}
use Rattle.chi_search.specs.Layers.{ComeAfter, SomeEnds}
use Rattle.chi_search.specs.Moves.{Ends}
use Rattle.chi_search.specs.declared.states.States.{States}
use Rattle.chi_search.specs.Paths.{AreBothReached, AreReached, IsDead, IsReached}
use Rattle.chi_search.specs.Positions.{position_of}
use Rattle.chi_search.proofs.Following.{come_after}
use Rattle.chi_search.proofs.Layers.{IsAdded, dead_adds, ends_more, none_is, more_states, more_waiting, waiting_more}
use Rattle.chi_search.proofs.Reached.{reached_more}
use Rattle.chi_search.proofs.moving.put_next.Goals as goal

pub returns-then-waits-clause-ends : goal.returns-then-waits-clause-ends
returns-then-waits-clause-ends c =
    let ops = c.args.problem.now.ops.now in
    let p = position_of c.args.state.now in
    let old = c.args.waiting.now in
    let new = c.add_new.new.states in
    on_ok_weaker c.add_new.result
    (λ (added : IsAdded new old p) more follow. more_waiting (ops ++ more) c.args.states.now new old p (ends_more (ops ++ more) new old p added))
    c.add_new.ensures.has

pub returns-then-waits-clause-waiting : goal.returns-then-waits-clause-waiting
returns-then-waits-clause-waiting c =
    let p = position_of c.args.state.now in
    on_ok_weaker c.add_new.result
    (λ (added : IsAdded c.add_new.new.states c.args.waiting.now p).
    waiting_more c.args.problem.now.ops.now c.args.horizon c.add_new.new.states c.args.waiting.now p added c.requires.ready (c.waits.ensures.waits c.if-waits.true))
    c.add_new.ensures.has

pub returns-then-waits-clause-reached : goal.returns-then-waits-clause-reached
returns-then-waits-clause-reached c =
    let ops = c.args.problem.now.ops.now in
    let p = position_of c.args.state.now in
    let old = c.args.waiting.now in
    let new = c.add_new.new.states in
    on_ok_weaker c.add_new.result
    (λ (added : IsAdded new old p) from reached (all : AreBothReached ops from c.args.states.now old). (all.0, reached_more ops from new old p added reached all.1))
    c.add_new.ensures.has

pub returns-then-is_seen_dead-clause-ends : goal.returns-then-is_seen_dead-clause-ends
returns-then-is_seen_dead-clause-ends c more follow =
    let ops = c.args.problem.now.ops.now in
    let p = position_of c.args.state.now in
    let none : is_some c.args.horizon ≡ false = grind rules in
    dead_adds ops more c.args.horizon c.args.states.now c.args.waiting.now p (none_is c.args.horizon none)
    (subst (λ (o : Option ℕ). IsDead ops o p) c.requires.unseen (c.is_seen_dead.ensures c.if-is_seen_dead.true)) follow

pub returns-clause-reached : goal.returns-clause-reached
returns-clause-reached c =
    let ops = c.args.problem.now.ops.now in
    let p = position_of c.args.state.now in
    on_ok_weaker c.add_moves.result
    (λ (on : (from : States) → IsReached ops from p → AreReached ops from c.args.states.now → AreReached ops from c.add_moves.new.states) from reached
    (all : AreBothReached ops from c.args.states.now c.args.waiting.now). (on from reached all.0, all.1))
    c.add_moves.ensures.reached

pub returns-clause-ends : goal.returns-clause-ends
returns-clause-ends c =
    let ops = c.args.problem.now.ops.now in
    let p = position_of c.args.state.now in
    let old = c.args.states.now in
    let new = c.add_moves.new.states in
    on_ok_weaker c.add_moves.result
    (λ (ends : (more : List Operation) → ComeAfter ops (at ops p.first).end more → (v : ℕ) → SomeEnds (ops ++ more) new v ↔ (SomeEnds (ops ++ more) old v ⊎ Ends (ops ++ more) (Some v) p)) more follow.
    more_states (ops ++ more) new old c.args.waiting.now p (ends more (come_after ops c.args.horizon (at ops p.first).end more follow (c.waits.ensures.passed c.if-waits.false))))
    c.add_moves.ensures.ends
