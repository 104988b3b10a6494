-- the operations, and then the memory
use Rattle.chi_answer.proofs.Operations.{witness_added}
use Rattle.chi_answer.proofs.witness.add_witness.Goals as goal

pub returns : goal.returns
returns c =
    let executed = c.in_ok-executed.executed in
    witness_added c.add_memory.result c.args.recorded.now c.args.order.now executed.words c.args.to.now.items c.add_operations.new.to.items c.add_memory.new.to.items
    (record { in_order = c.as_slice.ensures.in_order; each = rw c.trace.ensures at c.in_ok-executed.ensures.words })
    c.in_ok-add_operations.ensures
    (rw c.as_slice.ensures.words at c.add_memory.ensures)
