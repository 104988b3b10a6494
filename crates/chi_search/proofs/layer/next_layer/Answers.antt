-- the states that follow one state more
use Rattle.std.proofs.Common.{◌<◌, ◌++◌, Some, length, arith}
use Rattle.chi_search.specs.Layers.{EitherEnds, SomeEnds}
use Rattle.chi_search.specs.Moves.{Ends}
use Rattle.chi_search.specs.Positions.{IsReady, position_of}
use Rattle.chi_search.specs.StateSets.{positions}
use Rattle.chi_search.proofs.Elements.{some_end_beside, some_step_beside}
use Rattle.chi_search.proofs.Layers.{ends_more, has_at, more_states, ready_at, ready_more}
use Rattle.chi_search.proofs.Looking.{next_look}
use Rattle.chi_search.proofs.Reached.{reached_more}
use Rattle.chi_search.proofs.layer.next_layer.Goals as goal

pub loop-place-preserved : goal.loop-place-preserved
loop-place-preserved g c =
    let ops = c.args.problem.now.ops.now in
    let p = position_of c.read.new.to in
    let so = c.loop-place.invariant in
    let some : 0 < c.loop-place.budget = omega arith in
    record {
      ends = λ more follow v.
          some_step_beside (Ends (ops ++ more) (Some v)) (EitherEnds (ops ++ more) c.loop-place.states c.loop-place.waiting v) (EitherEnds (ops ++ more) c.put_next.new.states c.put_next.new.waiting v)
          (SomeEnds (ops ++ more) c.args.waiting.now v) (positions c.args.layer.now) c.loop-place.place p c.in_ok-read.ensures (so.ends more follow v) (c.in_ok-put_next.ensures.ends more follow v);
      ready = c.in_ok-put_next.ensures.ready so.ready;
      waiting = c.in_ok-put_next.ensures.waiting so.waiting;
      reached = λ from all. c.in_ok-put_next.ensures.reached from (all.0 p (has_at c.args.layer.now c.loop-place.place p c.in_ok-read.ensures)) (so.reached from all);
      most = omega arith;
      count = omega (arith, c.in_ok-put_next.ensures.count, so.count, some);
      fewer = λ before. omega (arith, so.left, some);
      left = omega (arith, so.left);
      looked = next_look g.P.Progress.looked c.args.progress.now c.loop-place.progress c.look.new.self c.args.budget.now c.loop-place.budget c.look.result so.left c.look.ensures.within so.looked c.look.ensures.looked;
    }

pub returns-clause-ends : goal.returns-clause-ends
returns-clause-ends g c more follow v =
    let ops = c.args.problem.now.ops.now ++ more in
    some_end_beside (Ends ops (Some v)) (EitherEnds ops c.loop-place.states c.loop-place.waiting v) (SomeEnds ops c.args.waiting.now v) (positions c.args.layer.now) c.loop-place.place (omega arith)
    (c.loop-place.invariant.ends more follow v)

-- a state at which more are settled stays in the set
pub loop-place-preserved-then-settled_count-fewest : goal.loop-place-preserved-then-settled_count-fewest
loop-place-preserved-then-settled_count-fewest g c =
    let ops = c.args.problem.now.ops.now in
    let old = c.loop-place.states in
    let new = c.add_new.new.states in
    let p = position_of c.read.new.to in
    let so = c.loop-place.invariant in
    let ready : IsReady (length ops) p = ready_at ops c.args.layer.now c.loop-place.place p c.in_ok-read.ensures c.requires.ready in
    record {
      ends = λ more follow v.
          some_step_beside (Ends (ops ++ more) (Some v)) (EitherEnds (ops ++ more) old c.loop-place.waiting v) (EitherEnds (ops ++ more) new c.loop-place.waiting v)
          (SomeEnds (ops ++ more) c.args.waiting.now v) (positions c.args.layer.now) c.loop-place.place p c.in_ok-read.ensures (so.ends more follow v)
          (more_states (ops ++ more) new old c.loop-place.waiting p (ends_more (ops ++ more) new old p c.in_ok-add_new.ensures.has) v);
      ready = ready_more ops new old p c.in_ok-add_new.ensures.has ready so.ready;
      waiting = so.waiting;
      reached = λ from all.
          let before = so.reached from all in
          (reached_more ops from new old p c.in_ok-add_new.ensures.has (all.0 p (has_at c.args.layer.now c.loop-place.place p c.in_ok-read.ensures)) before.0, before.1);
      most = so.most;
      count = so.count;
      fewer = λ before. so.fewer (omega (arith, before, c.if-place-least.true));
      left = so.left;
      looked = so.looked;
    }

pub put_next-requires-clause-ready : goal.put_next-requires-clause-ready
put_next-requires-clause-ready g c =
    ready_at c.args.problem.now.ops.now c.args.layer.now c.loop-place.place (position_of c.read.new.to) c.in_ok-read.ensures c.requires.ready
