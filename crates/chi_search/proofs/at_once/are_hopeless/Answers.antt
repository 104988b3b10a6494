-- one state more that is dead
use Rattle.std.proofs.Common.{subst, sym, ◌∙◌, arith, true≢false}
use Rattle.chi_search.specs.Paths.{AllDead, IsDead}
use Rattle.chi_search.specs.Positions.{position_of}
use Rattle.chi_search.proofs.DeadStates.{dead_here, dead_to_end, more_dead}
use Rattle.chi_search.proofs.at_once.are_hopeless.Goals as goal
use Rattle.chi_search.proofs.at_once.are_hopeless.Goals.{else-is_hopeless, then-is_hopeless+in_ok-add}

pub loop-place-preserved-then-has : goal.loop-place-preserved-then-has
loop-place-preserved-then-has c =
    let so = c.loop-place.invariant in
    let state = position_of c.read.new.to in
    record {
      dead = so.dead;
      all = λ are.
          dead_here c.args.problem.now.ops.now c.args.problem.now.final_word c.args.from.now c.loop-place.place state c.in_ok-read.ensures (so.all are)
          (so.dead state (c.has.ensures c.if-has.true));
    }

pub loop-place-preserved : goal.loop-place-preserved
loop-place-preserved c =
    let so = c.loop-place.invariant in
    let ops = c.args.problem.now.ops.now in
    let final_word = c.args.problem.now.final_word in
    let state = position_of c.read.new.to in
    elim c.if-is_hopeless.branch [
      | then-is_hopeless+in_ok-add w ↦
          let dead : IsDead ops final_word state = c.is_hopeless.ensures w.if-is_hopeless.true in
          record {
            dead = subst (AllDead ops final_word) (sym w.dead-is) (more_dead ops final_word c.loop-place.dead w.add.new.states state w.in_ok-add.ensures.has so.dead dead);
            all = λ are. dead_here ops final_word c.args.from.now c.loop-place.place state c.in_ok-read.ensures (so.all (sym w.are-is ∙ are)) dead;
          }
      | else-is_hopeless w ↦ record {
        dead = subst (AllDead ops final_word) (sym w.dead-is) so.dead;
        all = λ are. absurd (true≢false (sym are ∙ w.are-is));
      }
    ]

pub returns-clause-all : goal.returns-clause-all
returns-clause-all c are =
    dead_to_end c.args.problem.now.ops.now c.args.problem.now.final_word c.args.from.now c.loop-place.place (omega arith) (c.loop-place.invariant.all are)
