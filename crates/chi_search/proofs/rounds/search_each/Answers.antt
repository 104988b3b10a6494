-- one state more that is dead, or was left undecided, and an order from one
use Rattle.std.proofs.Common.{◌≡◌, ◌-◌, ◌<◌, length, subst, sym, ◌∙◌, arith, true≢false}
use Rattle.chi_trace.specs.Granules.{Finishes}
use Rattle.chi_search.specs.declared.order.Found.{Found}
use Rattle.chi_search.specs.Found.{IfNothing, IfOrder, IfUndecided}
use Rattle.chi_search.specs.Paths.{IsDead}
use Rattle.chi_search.specs.Positions.{is_left, position_of}
use Rattle.chi_search.proofs.DeadStates.{dead_here, dead_to_end}
use Rattle.chi_search.proofs.Layers.{has_at, ready_at}
use Rattle.chi_search.proofs.Looking.{more_after}
use Rattle.chi_search.proofs.rounds.search_each.Goals as goal
use Rattle.chi_search.proofs.rounds.search_each.Goals.{in-Nothing, in-Undecided}

pub loop-place-preserved-then-has : goal.loop-place-preserved-then-has
loop-place-preserved-then-has g c =
    let so = c.loop-place.invariant in
    let state = position_of c.read.new.to in
    record {
      parts = so.parts;
      dead = so.dead;
      all = λ are.
          dead_here c.args.problem.now.ops.now c.args.problem.now.final_word c.args.from.now c.loop-place.place state c.in_ok-read.ensures (so.all are)
          (so.dead state (c.has.ensures c.if-has.true));
      less = so.less;
      left = so.left;
      looked = so.looked;
    }

pub search-requires-clause-ready : goal.search-requires-clause-ready
search-requires-clause-ready g c =
    ready_at c.args.problem.now.ops.now c.args.from.now c.loop-place.place (position_of c.read.new.to) c.in_ok-read.ensures c.requires.ready

pub returns-in-Order-clause-order : goal.returns-in-Order-clause-order
returns-in-Order-clause-order g c =
    let state = position_of c.read.new.to in (
      state,
      has_at c.args.from.now c.loop-place.place state c.in_ok-read.ensures,
      subst (λ (found : Found). IfOrder found (λ order. Finishes c.args.problem.now.ops.now (is_left (length c.args.problem.now.ops.now) state) state.word c.args.problem.now.final_word order))
          c.in-Order.is c.in_ok-found.ensures.order,
    )

pub loop-place-preserved : goal.loop-place-preserved
loop-place-preserved g c =
    let so = c.loop-place.invariant in
    let searched = c.in_ok-found.ensures in
    let state = position_of c.read.new.to in
    let short = c.min-short.result in
    let left = c.search.new.budget in
    record {
      parts = searched.parts;
      dead = searched.dead;
      all = λ are. elim c.match-found.branch [
        | in-Nothing w ↦
            dead_here c.args.problem.now.ops.now c.args.problem.now.final_word c.args.from.now c.loop-place.place state c.in_ok-read.ensures (so.all (sym w.are_dead-is ∙ are))
            (subst (λ (found : Found). IfNothing found (IsDead c.args.problem.now.ops.now c.args.problem.now.final_word state)) w.in-Nothing.is searched.nothing)
        | in-Undecided w ↦ absurd (true≢false (sym are ∙ w.are_dead-is))
      ];
      less = λ are some. elim c.match-found.branch [
        | in-Nothing w ↦
            let before : c.loop-place.budget < c.args.budget.now = so.less (sym w.are_dead-is ∙ are) some in
            omega (arith, before)
        | in-Undecided w ↦
            let none : left ≡ 0 = subst (λ (found : Found). IfUndecided found (left ≡ 0)) w.in-Undecided.is searched.undecided in
            omega (arith, none, some, so.left, c.requires.share, c.min-short.ensures)
      ];
      left = omega (arith, so.left);
      looked = more_after g.P.Progress.looked c.args.progress.now c.loop-place.progress c.search.new.progress (c.args.budget.now - c.loop-place.budget) (short - left)
          (c.args.budget.now - (c.loop-place.budget - (short - left))) (omega (arith, so.left, searched.spends.0, c.min-short.ensures)) so.looked searched.spends.1;
    }

pub returns-then-are_dead-clause-nothing : goal.returns-then-are_dead-clause-nothing
returns-then-are_dead-clause-nothing g c =
    dead_to_end c.args.problem.now.ops.now c.args.problem.now.final_word c.args.from.now c.loop-place.place (omega arith) (c.loop-place.invariant.all c.if-are_dead.true)
