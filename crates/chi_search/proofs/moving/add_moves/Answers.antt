-- the states after an operation that was taken, and without the first one
use Rattle.std.proofs.Common.{◌+◌, ◌<◌, ◌++◌, length, length-append, ap, sym, subst, ◌∙◌, arith}
use Rattle.std.proofs.lemmas.Result.{on_ok_weaker}
use Rattle.chi_trace.specs.declared.operation.Operation.{Operation}
use Rattle.chi_search.specs.declared.states.States.{States}
use Rattle.chi_trace.specs.Granules.{Fits}
use Rattle.chi_search.specs.Layers.{AreReady}
use Rattle.chi_search.specs.Moves.{IsIdle}
use Rattle.chi_search.specs.Paths.{AreReached}
use Rattle.chi_search.specs.Positions.{position_of}
use Rattle.chi_search.proofs.Following.{at_before, comes_back, comes_on, drops_on, equal_on, ready_on, takes_on}
use Rattle.chi_search.proofs.Layers.{Grown, IsAdded, grown_equal, grown_late, grown_refused, grown_taken, late_before, late_on, not_grown, ready_more, whole_answered, whole_dropped, whole_idle}
use Rattle.chi_search.proofs.Paths.{AreLate, are_late}
use Rattle.chi_search.proofs.Reached.{reached_dropped, reached_more, reached_taken}
use Rattle.chi_search.proofs.moving.add_moves.Goals as goal
use Rattle.chi_search.proofs.moving.add_moves.Goals.{else-branch-2, else-branch-2-via-else-branch-2, else-branch-2-via-then-branch-2+else-not-has_equal_before, then-branch-2+then-not-has_equal_before+in_ok-add_new}

pub returns-then-branch-clause-ends : goal.returns-then-branch-clause-ends
returns-then-branch-clause-ends c =
    let ops = c.args.problem.now.ops.now in
    let p = position_of c.args.state.now in
    let q = position_of c.take.new.next in
    let place = c.in-Some.place in
    let below : place < length ops = c.in-Some.ensures.place in
    on_ok_weaker c.add_new.result
    (λ (added : IsAdded c.add_new.new.states c.args.states.now q) more after.
    whole_idle (ops ++ more) c.args.states.now c.add_new.new.states p q place added after.sorted
    (comes_on ops more p place c.requires.first (c.in_ok-take.ensures.comes c.if-branch.true))
    (takes_on ops more p q place below (c.in_ok-take.ensures.takes c.if-branch.true))
    (c.in_ok-take.ensures.finds c.if-branch.true) (c.in_ok-take.ensures.leaves c.if-branch.true)
    (subst IsIdle (sym (at_before ops more place below)) c.in-Some.ensures.idle))
    c.add_new.ensures.has

pub returns-then-branch-clause-ready : goal.returns-then-branch-clause-ready
returns-then-branch-clause-ready c =
    on_ok_weaker c.add_new.result
    (λ (added : IsAdded c.add_new.new.states c.args.states.now (position_of c.take.new.next)).
    ready_more c.args.problem.now.ops.now c.add_new.new.states c.args.states.now (position_of c.take.new.next) added (c.in_ok-take.ensures.ready c.if-branch.true))
    c.add_new.ensures.has

pub returns-then-branch-clause-reached : goal.returns-then-branch-clause-reached
returns-then-branch-clause-reached c =
    let ops = c.args.problem.now.ops.now in
    let q = position_of c.take.new.next in
    on_ok_weaker c.add_new.result
    (λ (added : IsAdded c.add_new.new.states c.args.states.now q) from reached.
    reached_more ops from c.add_new.new.states c.args.states.now q added
    (reached_taken ops from c.args.state.now c.in-Some.place q c.requires.ready (c.in_ok-take.ensures.comes c.if-branch.true) (c.in_ok-take.ensures.takes c.if-branch.true)
    (c.in_ok-take.ensures.leaves c.if-branch.true) reached))
    c.add_new.ensures.has

pub loop-place-init : goal.loop-place-init
loop-place-init c =
    let ops = c.args.problem.now.ops.now in
    let p = position_of c.args.state.now in
    let place = c.next-place.result in
    record {
      grown = λ more after.
          grown_late (ops ++ more) c.args.states.now c.args.states.now p p.first place (not_grown (ops ++ more) c.args.states.now p)
          (late_before ops more p p.first place c.requires.first c.next-place.ensures.within
          (are_late ops p p.first place c.index-ops-state.result c.requires.first c.index-ops-state.is c.next-place.ensures.late));
      ready = λ all. all;
      reached = λ from reached all. all;
    }

pub loop-place-preserved : goal.loop-place-preserved
loop-place-preserved c =
    let ops = c.args.problem.now.ops.now in
    let p = position_of c.args.state.now in
    let q = position_of c.take-in-loop-place.new.next in
    let place = c.loop-place.place in
    let below : place < length ops = omega arith in
    let old = c.args.states.now in
    let now = c.loop-place.states in
    let further = c.next-place-in-loop-place.result in
    let late : AreLate ops p (place + 1) further =
    are_late ops p (place + 1) further c.index-ops-state.result c.requires.first c.index-ops-state.is c.next-place-in-loop-place.ensures.late in
    elim c.if-branch-2.branch [
      | then-branch-2+then-not-has_equal_before+in_ok-add_new w ↦ record {
        grown = λ more after.
            subst (λ (grown : States). Grown (ops ++ more) old grown p further) (sym w.states-is)
            (grown_late (ops ++ more) old w.add_new-then-not-has_equal_before.new.states p (place + 1) further
            (grown_taken (ops ++ more) old now w.add_new-then-not-has_equal_before.new.states p q place (c.loop-place.invariant.grown more after) w.in_ok-add_new.ensures.has
            after.sorted
            (comes_on ops more p place c.requires.first (c.in_ok-take-2.ensures.comes w.if-branch-2.true))
            (takes_on ops more p q place below (c.in_ok-take-2.ensures.takes w.if-branch-2.true)) (c.in_ok-take-2.ensures.leaves w.if-branch-2.true))
            (late_before ops more p (place + 1) further c.requires.first c.next-place-in-loop-place.ensures.within late));
        ready = λ all.
            subst (AreReady ops) (sym w.states-is)
            (ready_more ops w.add_new-then-not-has_equal_before.new.states now q w.in_ok-add_new.ensures.has (c.in_ok-take-2.ensures.ready w.if-branch-2.true) (c.loop-place.invariant.ready all));
        reached = λ from reached all.
            subst (AreReached ops from) (sym w.states-is)
            (reached_more ops from w.add_new-then-not-has_equal_before.new.states now q w.in_ok-add_new.ensures.has
            (reached_taken ops from c.args.state.now place q c.requires.ready (c.in_ok-take-2.ensures.comes w.if-branch-2.true) (c.in_ok-take-2.ensures.takes w.if-branch-2.true)
            (c.in_ok-take-2.ensures.leaves w.if-branch-2.true) reached)
            (c.loop-place.invariant.reached from reached all));
      }
      | else-branch-2 w ↦ record {
        grown = λ more after.
            subst (λ (grown : States). Grown (ops ++ more) old grown p further) (sym w.states-is)
            (grown_late (ops ++ more) old now p (place + 1) further
            (elim w.else-branch-2.branch [
              | else-branch-2-via-then-branch-2+else-not-has_equal_before e ↦
                  grown_equal (ops ++ more) old now p place (c.loop-place.invariant.grown more after) after.sorted
                  (equal_on ops more p place c.requires.first below (e.has_equal_before.ensures e.if-not-has_equal_before.false))
              | else-branch-2-via-else-branch-2 e ↦
                  grown_refused (ops ++ more) old now p place (c.loop-place.invariant.grown more after)
                  (λ comes fits.
                  c.in_ok-take-2.ensures.refused e.if-branch-2.false (comes_back ops more p place c.requires.first below comes)
                  (subst (λ (o : Operation). Fits o p.word) (at_before ops more place below) fits))
            ])
            (late_before ops more p (place + 1) further c.requires.first c.next-place-in-loop-place.ensures.within late));
        ready = λ all. subst (AreReady ops) (sym w.states-is) (c.loop-place.invariant.ready all);
        reached = λ from reached all. subst (AreReached ops from) (sym w.states-is) (c.loop-place.invariant.reached from reached all);
      }
    ]

pub returns-in_ok-add_new-2-clause-ends : goal.returns-in_ok-add_new-2-clause-ends
returns-in_ok-add_new-2-clause-ends c more after =
    let ops = c.args.problem.now.ops.now in
    let p = position_of c.args.state.now in
    let q = position_of c.leave_out.new.next in
    let further : p.first < length (ops ++ more) = omega (arith, c.requires.first, length-append ops more) in
    whole_dropped (ops ++ more) c.args.states.now c.loop-place.states c.add_new-then-branch-3.new.states p q c.loop-place.place (c.loop-place.invariant.grown more after) c.in_ok-add_new-2.ensures.has
    after.sorted (ready_on ops more p c.requires.ready) further
    (late_on ops more p c.loop-place.place c.requires.first
    (λ i from inside. absurd (omega (arith, from, inside, c.loop-place-test.false)))
    after.late)
    (drops_on ops more p q c.requires.first (c.in_ok-leave_out.ensures.drops c.if-branch-3.true))

pub returns-in_ok-add_new-2-clause-ready : goal.returns-in_ok-add_new-2-clause-ready
returns-in_ok-add_new-2-clause-ready c all =
    ready_more c.args.problem.now.ops.now c.add_new-then-branch-3.new.states c.loop-place.states (position_of c.leave_out.new.next) c.in_ok-add_new-2.ensures.has
    (c.in_ok-leave_out.ensures.ready c.if-branch-3.true) (c.loop-place.invariant.ready all)

pub returns-in_ok-add_new-2-clause-reached : goal.returns-in_ok-add_new-2-clause-reached
returns-in_ok-add_new-2-clause-reached c from reached all =
    let ops = c.args.problem.now.ops.now in
    let q = position_of c.leave_out.new.next in
    reached_more ops from c.add_new-then-branch-3.new.states c.loop-place.states q c.in_ok-add_new-2.ensures.has
    (reached_dropped ops from c.args.state.now q c.requires.ready c.requires.first (c.in_ok-leave_out.ensures.drops c.if-branch-3.true) reached)
    (c.loop-place.invariant.reached from reached all)

pub returns-else-branch-3-clause-ends : goal.returns-else-branch-3-clause-ends
returns-else-branch-3-clause-ends c more after =
    let ops = c.args.problem.now.ops.now in
    let p = position_of c.args.state.now in
    let further : p.first < length (ops ++ more) = omega (arith, c.requires.first, length-append ops more) in
    whole_answered (ops ++ more) c.args.states.now c.loop-place.states p c.loop-place.place (c.loop-place.invariant.grown more after) after.sorted (ready_on ops more p c.requires.ready) further
    (late_on ops more p c.loop-place.place c.requires.first
    (λ i from inside. absurd (omega (arith, from, inside, c.loop-place-test.false)))
    after.late)
    (λ none. c.in_ok-leave_out.ensures.answered c.if-branch-3.false (ap (λ (o : Operation). o.reply) (sym (at_before ops more p.first c.requires.first)) ∙ none))
