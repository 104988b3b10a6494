-- states that are dead, once it was asked whether that is seen at once
use Rattle.std.proofs.Common.{subst, sym}
use Rattle.chi_search.specs.Paths.{AllDead}
use Rattle.chi_search.proofs.DeadStates.{none_dead}
use Rattle.chi_search.proofs.order.order_from.Goals as goal
use Rattle.chi_search.proofs.order.order_from.Goals.{else-are_hot-via-else-are_hot, else-are_hot-via-then-are_hot+in_ok-are_hopeless+else-branch-2}

pub returns-then-branch-2-clause-nothing : goal.returns-then-branch-2-clause-nothing
returns-then-branch-2-clause-nothing g c = c.in_ok-are_hopeless.ensures.all c.if-branch-2.true

pub search_in_rounds-requires-clause-dead : goal.search_in_rounds-requires-clause-dead
search_in_rounds-requires-clause-dead g c =
    elim c.else-are_hot.branch [
      | else-are_hot-via-then-are_hot+in_ok-are_hopeless+else-branch-2 w ↦ subst (AllDead c.args.ops.now c.args.final_word) (sym w.dead-is) w.in_ok-are_hopeless.ensures.dead
      | else-are_hot-via-else-are_hot w ↦
          subst (AllDead c.args.ops.now c.args.final_word) (sym w.dead-is) (none_dead c.args.ops.now c.args.final_word c.no_states-dead.result c.no_states-dead.ensures)
    ]

pub returns-then-branch-3-clause-nothing : goal.returns-then-branch-3-clause-nothing
returns-then-branch-3-clause-nothing g c = c.in_ok-are_hopeless-2.ensures.all c.if-branch-3.true
