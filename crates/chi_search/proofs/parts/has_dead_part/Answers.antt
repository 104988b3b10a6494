-- the part that was asked stays one, and a state is dead where it is in a part
use Rattle.std.proofs.Common.{◌<◌, ◌∙◌, get_or, length, length-set, arith}
use Rattle.std.proofs.lemmas.List.Elements.{All-set}
use Rattle.chi_search.specs.Parts.{IsPartOf}
use Rattle.chi_search.specs.Positions.{position_of}
use Rattle.chi_search.proofs.Looking.{spent_after}
use Rattle.chi_search.proofs.Within.{dead_within}
use Rattle.chi_search.proofs.parts.has_dead_part.Goals as goal

pub lacks_order-requires-clause-part : goal.lacks_order-requires-clause-part
lacks_order-requires-clause-part g c =
    let below : c.loop-place.place < length c.loop-place.parts = omega (arith, c.loop-place.invariant.long) in
    c.loop-place.invariant.parts c.loop-place.place c.index-parts-place.result below

pub returns-then-branch-clause-dead : goal.returns-then-branch-clause-dead
returns-then-branch-clause-dead g c _ =
    dead_within (get_or c.loop-place.parts c.loop-place.place c.index-parts-place.result).mask c.args.problem.now.ops.now c.args.problem.now.final_word (position_of c.args.state.now) (omega arith) (c.in_ok-lacks_order.ensures.dead c.if-branch.true)

pub returns-then-branch-clause-parts : goal.returns-then-branch-clause-parts
returns-then-branch-clause-parts g c =
    All-set (IsPartOf c.args.problem.now.ops.now c.args.problem.now.final_word) c.loop-place.parts c.loop-place.place c.lacks_order.new.part c.in_ok-lacks_order.ensures.part c.loop-place.invariant.parts

pub loop-place-preserved : goal.loop-place-preserved
loop-place-preserved g c = record {
  long = length-set c.loop-place.parts c.loop-place.place c.lacks_order.new.part ∙ c.loop-place.invariant.long;
  parts = All-set (IsPartOf c.args.problem.now.ops.now c.args.problem.now.final_word) c.loop-place.parts c.loop-place.place c.lacks_order.new.part c.in_ok-lacks_order.ensures.part c.loop-place.invariant.parts;
  left = omega (arith, c.in_ok-lacks_order.ensures.spends.0, c.loop-place.invariant.left);
  looked = spent_after g.P.Progress.looked c.args.progress.now c.loop-place.progress c.lacks_order.new.progress c.args.budget.now c.loop-place.budget c.lacks_order.new.budget
      c.loop-place.invariant.left c.in_ok-lacks_order.ensures.spends.0 c.loop-place.invariant.looked c.in_ok-lacks_order.ensures.spends.1;
}
