-- a step is a move, and a state without one is dead
use Rattle.std.proofs.Common.{◌≡◌, ℕ, ◌+◌, ◌<◌, ◌≤◌, IfSome, Option, length, refl, sym, subst, arith}
use Rattle.chi_search.specs.Paths.{Moves}
use Rattle.chi_search.specs.Positions.{position_of}
use Rattle.chi_search.proofs.Moves.{at_end}
use Rattle.chi_search.proofs.Paths.{are_late, dead_more, equal_more, first_dead, first_refused, idle_dead, late_more, refused_more, tried_all}
use Rattle.chi_search.proofs.Within.{dead_within}
use Rattle.chi_search.proofs.choice.choose.Goals as goal
use Rattle.chi_search.proofs.choice.choose.Goals.{else-branch-2-via-else-branch-2, else-branch-2-via-then-branch-2+else-not-has, else-branch-3-via-else-branch-3, else-branch-3-via-then-branch-3+else-not-has-2, else-branch-3-via-then-branch-3+then-not-has-2+else-not-has_equal_before, else-branch-4-via-else-branch-4, else-branch-4-via-then-branch-4+else-not-has-3}

pub returns-in-Some-clause-dead : goal.returns-in-Some-clause-dead
returns-in-Some-clause-dead c all (x, ends) =
    let past : length c.args.problem.now.ops.now ≤ c.args.state.now.first = omega arith in
    let last = at_end c.args.problem.now.ops.now c.args.problem.now.final_word (position_of c.args.state.now) x past ends in
    let same : c.args.state.now.word ≡ c.in-Some.seen = subst (λ (o : Option ℕ). IfSome o (λ v. c.args.state.now.word ≡ v)) c.in-Some.is last in
    c.if-seen-state.true (sym same)

pub returns-then-has-clause-dead : goal.returns-then-has-clause-dead
returns-then-has-clause-dead c =
    idle_dead c.args.problem.now.ops.now c.args.problem.now.final_word c.args.dead.now (position_of c.args.state.now) (position_of c.take.new.next) c.in-Some-idle_next.place
    (c.in_ok-take.ensures.finds c.if-branch.true) (c.in_ok-take.ensures.comes c.if-branch.true) c.in-Some-idle_next.ensures.idle
    (c.in_ok-take.ensures.takes c.if-branch.true) (c.has.ensures c.if-has.true)

pub returns-then-branch-clause-moves : goal.returns-then-branch-clause-moves
unfolding Moves
returns-then-branch-clause-moves c =
    (c.requires.ready, c.in_ok-take.ensures.comes c.if-branch.true, c.in_ok-take.ensures.takes c.if-branch.true, c.in_ok-take.ensures.leaves c.if-branch.true)

pub lacks_maker-requires-clause-run : goal.lacks_maker-requires-clause-run
lacks_maker-requires-clause-run c = record { lane = 0; len = 8; some = omega arith; room = omega arith; number = refl }

pub returns-then-lacks_maker-clause-dead : goal.returns-then-lacks_maker-clause-dead
returns-then-lacks_maker-clause-dead c _ =
    dead_within _ c.args.problem.now.ops.now c.args.problem.now.final_word (position_of c.args.state.now) (omega arith) (c.lacks_maker.ensures c.if-lacks_maker.true)

pub returns-in-Some-commuting_next-clause-dead : goal.returns-in-Some-commuting_next-clause-dead
returns-in-Some-commuting_next-clause-dead c = elim c.else-branch-2.branch [
  | else-branch-2-via-then-branch-2+else-not-has w ↦
      first_dead c.args.problem.now.ops.now c.args.problem.now.final_word c.args.dead.now (position_of c.args.state.now) (position_of c.take-in-Some-commuting_next.new.next) c.in-Some-commuting_next.place
      c.in-Some-commuting_next.ensures.first (c.in_ok-take-2.ensures.takes w.if-branch-2.true) (w.has-then-branch-2.ensures w.if-not-has.false)
  | else-branch-2-via-else-branch-2 w ↦ λ _.
      first_refused c.args.problem.now.ops.now c.args.problem.now.final_word (position_of c.args.state.now) c.in-Some-commuting_next.place c.in-Some-commuting_next.ensures.first
      (c.in_ok-take-2.ensures.refused w.if-branch-2.false)
]

pub returns-then-not-has-clause-moves : goal.returns-then-not-has-clause-moves
unfolding Moves
returns-then-not-has-clause-moves c =
    (c.requires.ready, c.in_ok-take-2.ensures.comes c.if-branch-2.true, c.in_ok-take-2.ensures.takes c.if-branch-2.true, c.in_ok-take-2.ensures.leaves c.if-branch-2.true)

pub returns-then-not-has_equal_before-clause-moves : goal.returns-then-not-has_equal_before-clause-moves
unfolding Moves
returns-then-not-has_equal_before-clause-moves c =
    (c.requires.ready, c.in_ok-take-3.ensures.comes c.if-branch-3.true, c.in_ok-take-3.ensures.takes c.if-branch-3.true, c.in_ok-take-3.ensures.leaves c.if-branch-3.true)

pub loop-place-init : goal.loop-place-init
loop-place-init c =
    late_more c.args.problem.now.ops.now c.args.problem.now.final_word c.args.dead.now (position_of c.args.state.now) c.args.tried c.next-place.result (λ all. c.requires.tried)
    (are_late c.args.problem.now.ops.now (position_of c.args.state.now) c.args.tried c.next-place.result c.index-ops-state.result (omega arith) c.index-ops-state.is c.next-place.ensures.late)

pub loop-place-preserved : goal.loop-place-preserved
loop-place-preserved c =
    late_more c.args.problem.now.ops.now c.args.problem.now.final_word c.args.dead.now (position_of c.args.state.now) (c.loop-place.place + 1) c.next-place-in-loop-place.result
    (elim c.else-branch-3.branch [
      | else-branch-3-via-then-branch-3+then-not-has-2+else-not-has_equal_before w ↦
          equal_more c.args.problem.now.ops.now c.args.problem.now.final_word c.args.dead.now (position_of c.args.state.now) c.loop-place.place c.requires.problem.sorted c.loop-place.invariant
          (w.has_equal_before.ensures w.if-not-has_equal_before.false)
      | else-branch-3-via-then-branch-3+else-not-has-2 w ↦
          dead_more c.args.problem.now.ops.now c.args.problem.now.final_word c.args.dead.now (position_of c.args.state.now) (position_of c.take-in-loop-place.new.next) c.loop-place.place c.loop-place.invariant
          (c.in_ok-take-3.ensures.takes w.if-branch-3.true) (w.has-then-branch-3.ensures w.if-not-has-2.false)
      | else-branch-3-via-else-branch-3 w ↦
          refused_more c.args.problem.now.ops.now c.args.problem.now.final_word c.args.dead.now (position_of c.args.state.now) c.loop-place.place c.loop-place.invariant
          (c.in_ok-take-3.ensures.refused w.if-branch-3.false)
    ])
    (are_late c.args.problem.now.ops.now (position_of c.args.state.now) (c.loop-place.place + 1) c.next-place-in-loop-place.result c.index-ops-state.result (omega arith) c.index-ops-state.is
    c.next-place-in-loop-place.ensures.late)

pub returns-then-not-has-3-clause-moves : goal.returns-then-not-has-3-clause-moves
unfolding Moves
returns-then-not-has-3-clause-moves c = (c.requires.ready, omega arith, c.in_ok-leave_out.ensures.drops c.if-branch-4.true)

pub returns-clause-dead : goal.returns-clause-dead
returns-clause-dead c =
    let below : c.args.state.now.first < length c.args.problem.now.ops.now = omega arith in
    tried_all c.args.problem.now.ops.now c.args.problem.now.final_word c.args.dead.now (position_of c.args.state.now) c.loop-place.place c.requires.problem.sorted c.requires.ready below c.loop-place.invariant
    (λ i from inside. absurd (omega (arith, from, inside, c.loop-place-test.false)))
    (λ all dropping. elim c.else-branch-4.branch [
      | else-branch-4-via-then-branch-4+else-not-has-3 w ↦
          all (position_of c.leave_out.new.next) (w.has-then-branch-4.ensures w.if-not-has-3.false) (dropping.1 (position_of c.leave_out.new.next) (c.in_ok-leave_out.ensures.drops w.if-branch-4.true))
      | else-branch-4-via-else-branch-4 w ↦ c.in_ok-leave_out.ensures.answered w.if-branch-4.false dropping.0
    ])
