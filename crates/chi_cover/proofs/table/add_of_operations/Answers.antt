-- one group after the other
use Rattle.std.proofs.Common.{codes, flat_map}
use Rattle.chi_cover.specs.Bins.{all_kinds, comparison_bins, enables_bins, lengths, operation_bins, result_bins}
use Rattle.chi_cover.specs.Counts.{count_in}
use Rattle.chi_cover.specs.Plan.{goal_in}
use Rattle.chi_cover.specs.Texts.{comparison_row, enables_row, head_text, kind_rows, operations_text}
use Rattle.chi_text.proofs.Growing.{joined}
use Rattle.chi_cover.proofs.Lists.{on_ok}
use Rattle.chi_cover.proofs.table.add_of_operations.Goals as goal

pub returns : goal.returns
unfolding operations_text
returns c =
    let counts = count_in c.args.covered.now in
    let head = head_text (goal_in c.args.plan.now) counts in
    let operation_head = rw (c.deref.ensures.value, c.in_ok-operation_bins.ensures) at c.in_ok-add_head.ensures in
    let comparison_head = rw (c.deref-2.ensures.value, c.in_ok-comparison_bins.ensures) at c.in_ok-add_head-2.ensures in
    let enables_head = rw (c.deref-3.ensures.value, c.in_ok-enables_bins.ensures) at c.in_ok-add_head-3.ensures in
    let result_head = rw (c.deref-4.ensures.value, c.in_ok-result_bins.ensures) at c.in_ok-add_head-4.ensures in
    on_ok c.add_all_results.result c.add_all_results.ensures
    (λ end.
    joined c.args.to.now.items c.add_head.new.to.items _ (head (codes "operations") operation_bins) _ operation_head
    (joined c.add_head.new.to.items c.add_all_kinds.new.to.items _ (flat_map (kind_rows counts) all_kinds) _ c.in_ok-add_all_kinds.ensures
    (joined c.add_all_kinds.new.to.items c.add_head-2.new.to.items _ (head (codes "compares") comparison_bins) _ comparison_head
    (joined c.add_head-2.new.to.items c.add_all_comparisons.new.to.items _ (flat_map (comparison_row counts) lengths) _ c.in_ok-add_all_comparisons.ensures
    (joined c.add_all_comparisons.new.to.items c.add_head-3.new.to.items _ (head (codes "writes") enables_bins) _ enables_head
    (joined c.add_head-3.new.to.items c.add_all_enables.new.to.items _ (flat_map (enables_row counts) lengths) _ c.in_ok-add_all_enables.ensures
    (joined c.add_all_enables.new.to.items c.add_head-4.new.to.items _ (head (codes "results") result_bins) _ result_head end)))))))
