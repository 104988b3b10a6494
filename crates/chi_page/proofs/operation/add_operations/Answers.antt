-- one text more
use Rattle.std.proofs.Common.{◌≡◌, ◌++◌, ℕ, length, sym, ap, ◌∙◌, append-nil, arith}
use Rattle.chi_page.specs.Listed.{comma_line, listed}
use Rattle.chi_page.specs.Operations.{operations_json}
use Rattle.chi_page.specs.Operations.{operation_at}
use Rattle.chi_page.proofs.Joined.{listed_more}
use Rattle.chi_page.proofs.operation.add_operations.Goals as goal

pub loop-at-init : goal.loop-at-init
unfolding listed
loop-at-init c = sym (append-nil c.args.to.now.items)

pub loop-at-preserved : goal.loop-at-preserved
loop-at-preserved c =
    listed_more comma_line (operation_at c.args.recorded.now) c.args.to.now.items c.loop-at.at c.loop-at.to.items _ _
    c.loop-at.invariant c.in_ok-add_between.ensures c.in_ok-add_operation_at.ensures

pub add_operation_at-requires : goal.add_operation_at-requires
add_operation_at-requires c =
    let count : length c.operations-count.result.now ≡ length c.args.recorded.now.trace.operations = ap length (rw c.trace.ensures at c.operations-count.ensures.operations) in
    omega arith

pub returns : goal.returns
unfolding operations_json
returns c =
    let count : length c.operations-count.result.now ≡ length c.args.recorded.now.trace.operations = ap length (rw c.trace.ensures at c.operations-count.ensures.operations) in
    let all : c.loop-at.at ≡ length c.args.recorded.now.trace.operations = omega arith in
    c.loop-at.invariant ∙ ap (λ (n : ℕ). c.args.to.now.items ++ listed comma_line (operation_at c.args.recorded.now) n) all
