-- one layer more, and the last
use Rattle.std.proofs.Common.{ℕ, ◌-◌, ◌≤◌, ◌↔◌, List, ◌++◌, IfSome, Option, length, ap, subst, arith}
use Rattle.chi_trace.specs.declared.operation.Operation.{Operation}
use Rattle.chi_search.specs.declared.states.States.{States}
use Rattle.chi_search.specs.Layers.{AreReady, AreWaiting, EitherEnds, MayFollow, SomeEnds}
use Rattle.chi_search.specs.Paths.{AreBothReached}
use Rattle.chi_search.specs.StateSets.{positions}
use Rattle.chi_search.proofs.FirstAndLast.{chained}
use Rattle.chi_search.proofs.Layers.{first_either, last_either, none_has}
use Rattle.chi_search.proofs.Looking.{none_more, spent_after}
use Rattle.chi_search.proofs.Reached.{reached_first, reached_none}
use Rattle.chi_search.proofs.layer.advance.Goals as goal

pub loop-problem-init : goal.loop-problem-init
loop-problem-init g c =
    let none = ap length c.no_states-waiting.ensures in
    record {
      ends = λ more follow v. first_either (c.args.ops.now ++ more) c.args.from c.no_states-waiting.result v none;
      ready = c.requires.ready;
      waiting = λ p has. absurd (none_has c.no_states-waiting.result p c.no_states-waiting.ensures has);
      reached = (reached_first c.args.ops.now c.args.from, reached_none c.args.ops.now c.args.from c.no_states-waiting.result c.no_states-waiting.ensures);
      most = omega (arith, none);
      count = omega (arith, none);
      looked = none_more g.P.Progress.looked c.args.progress.now (c.args.budget.now - c.args.budget.now) (omega arith);
    }

pub loop-problem-preserved : goal.loop-problem-preserved
loop-problem-preserved g c =
    let ops = c.args.ops.now in
    let layer = c.loop-problem.layer in
    let old = c.loop-problem.waiting in
    let new = c.next_layer.new.waiting in
    let ends = subst (λ (o : Option States). IfSome o (λ next. (more : List Operation) → MayFollow ops c.args.horizon more → (v : ℕ) → EitherEnds (ops ++ more) next new v ↔ EitherEnds (ops ++ more) layer old v))
    c.in-Some.is c.in_ok-next.ensures.ends in
    let under : c.loop-problem.budget ≤ c.args.budget.now = omega (arith, c.loop-problem.invariant.count) in
    let count = c.in_ok-next.ensures.count in
    let spends = c.in_ok-next.ensures.spends in
    record {
      ends = λ more follow v.
          chained (EitherEnds (ops ++ more) c.in-Some.next new v) (EitherEnds (ops ++ more) layer old v) (SomeEnds (ops ++ more) c.args.from v) (ends more follow v)
          (c.loop-problem.invariant.ends more follow v);
      ready = subst (λ (o : Option States). IfSome o (AreReady ops)) c.in-Some.is c.in_ok-next.ensures.ready;
      waiting = subst (λ (o : Option States). IfSome o (λ next. AreWaiting ops c.args.horizon new)) c.in-Some.is c.in_ok-next.ensures.waiting;
      reached = subst (λ (o : Option States). IfSome o (λ next. (from : States) → AreBothReached ops from layer old → AreBothReached ops from next new))
          c.in-Some.is c.in_ok-next.ensures.reached c.args.from c.loop-problem.invariant.reached;
      most = subst (λ (o : Option States). IfSome o (λ next. length (positions new) ≤ c.args.most)) c.in-Some.is c.in_ok-next.ensures.most;
      count = omega (arith, count, c.loop-problem.invariant.count);
      looked = spent_after g.P.Progress.looked c.args.progress.now c.loop-problem.progress c.next_layer.new.progress c.args.budget.now c.loop-problem.budget c.next_layer.new.budget
          under spends.0 c.loop-problem.invariant.looked spends.1;
    }

pub returns-clause-ends : goal.returns-clause-ends
returns-clause-ends g c more follow v =
    last_either (c.args.ops.now ++ more) c.args.from c.loop-problem.layer c.loop-problem.waiting v (omega arith) (c.loop-problem.invariant.ends more follow v)

pub returns-clause-ready : goal.returns-clause-ready
returns-clause-ready g c p has = (c.loop-problem.invariant.waiting p has).0

pub returns-clause-reached : goal.returns-clause-reached
returns-clause-reached g c = c.loop-problem.invariant.reached.1
