-- one operation more is settled first
use Rattle.std.proofs.Common.{length, sym, subst}
use Rattle.chi_search.specs.declared.state.State.{State}
use Rattle.chi_search.specs.Positions.{IsReady, position_of}
use Rattle.chi_search.specs.Within.{GoesOnWithin}
use Rattle.chi_search.proofs.WithinMoves.{settles_kept}
use Rattle.chi_search.proofs.absorbing.absorb.Goals as goal

pub loop-preserved : goal.loop-preserved
loop-preserved c =
    let kept : GoesOnWithin c.args.mask c.args.problem.now.ops.now (position_of c.loop.state) (position_of c.settle.new.to) =
    settles_kept c.args.mask c.args.problem.now.ops.now (position_of c.loop.state) (position_of c.settle.new.to) c.in-Some.place c.in-Some.ensures.left c.in-Some.ensures.keeps
    c.in_ok-settle-in-Some.ensures.left c.in_ok-settle-in-Some.ensures.word in
    record {
      ready = subst (λ (s : State). IsReady (length c.args.problem.now.ops.now) (position_of s)) (sym c.swap.ensures.x_after) c.in_ok-settle-in-Some.ensures.ready;
      goes_on = subst (λ (s : State). GoesOnWithin c.args.mask c.args.problem.now.ops.now (position_of c.args.state.now) (position_of s)) (sym c.swap.ensures.x_after)
          (λ final_word ends. kept final_word (c.loop.invariant.goes_on final_word ends));
    }
