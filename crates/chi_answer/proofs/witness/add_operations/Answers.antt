-- one operation more
use Rattle.std.proofs.Common.{◌≡◌, ℕ, ◌<◌, ◌++◌, List, get_or, length, sym, ap, ◌∙◌, append-nil, arith, ltb-true, take, take_all}
use Rattle.chi_trace.specs.Words.{memory_of}
use Rattle.chi_answer.specs.Witnesses.{operation_lines}
use Rattle.chi_answer.proofs.Operations.{length-replies_in, line_added}
use Rattle.chi_answer.proofs.witness.add_operations.Goals as goal

pub loop-at-init : goal.loop-at-init
unfolding operation_lines
loop-at-init c = sym (append-nil c.args.to.now.items)

pub bounds-order-at : goal.bounds-order-at
bounds-order-at c =
    let as_many : length c.args.replies.now ≡ length c.args.order.now = ap length c.requires.replies ∙ length-replies_in _ _ c.args.order.now in
    omega (arith, as_many, c.loop-at-test.true)

pub bounds-ops-order : goal.bounds-ops-order
bounds-ops-order c =
    let ops = c.args.recorded.now.trace.operations in
    let order = c.args.order.now in
    let as_many : length c.args.replies.now ≡ length order = ap length c.requires.replies ∙ length-replies_in _ _ order in
    let under : c.loop-at.at < length order = omega (arith, as_many, c.loop-at-test.true) in
    let inside : get_or order c.loop-at.at 0 < length ops = ltb-true (get_or order c.loop-at.at 0) (length ops) (c.requires.places c.loop-at.at 0 under) in
    rw (c.operations-ops.ensures.operations, c.trace.ensures) inside

pub loop-at-preserved : goal.loop-at-preserved
loop-at-preserved c =
    let r = c.args.recorded.now in
    let order = c.args.order.now in
    let as_many : length c.args.replies.now ≡ length order = ap length c.requires.replies ∙ length-replies_in _ _ order in
    let under : c.loop-at.at < length order = omega (arith, as_many, c.loop-at-test.true) in
    let inside : get_or order c.loop-at.at 0 < length r.trace.operations = ltb-true (get_or order c.loop-at.at 0) (length r.trace.operations) (c.requires.places c.loop-at.at 0 under) in
    let read = rw (c.operations-ops.ensures.operations, c.trace.ensures) at c.index-ops-order.is in
    line_added r (memory_of r.trace.opening) order c.args.replies.now c.loop-at.at c.index-ops-order.result _ c.args.to.now.items c.loop-at.to.items c.add_operation.new.to.items
    under inside c.requires.replies c.loop-at.invariant (rw read at c.in_ok-add_operation.ensures)

pub returns : goal.returns
returns c =
    let r = c.args.recorded.now in
    let order = c.args.order.now in
    let as_many : length c.args.replies.now ≡ length order = ap length c.requires.replies ∙ length-replies_in _ _ order in
    let all : take c.loop-at.at order ≡ order = take_all c.loop-at.at order (omega (arith, as_many, c.loop-at-test.false)) in
    c.loop-at.invariant ∙ ap (λ (x : List ℕ). c.args.to.now.items ++ operation_lines r (memory_of r.trace.opening) x) all
