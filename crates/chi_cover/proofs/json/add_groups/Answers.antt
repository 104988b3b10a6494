-- one group after the other
use Rattle.std.proofs.Common.{◌++◌, List, ℕ, append-nil, codes, sym, ap, ◌∙◌}
use Rattle.chi_cover.specs.Bins.{comparison_bins, enables_bins, line_sequence_bins, open_bins, operation_bins, overlap_bins, requester_bins, result_bins, sequence_bins}
use Rattle.chi_cover.specs.Counts.{count_in}
use Rattle.chi_cover.specs.Json.{further, group_json, groups_json}
use Rattle.chi_text.proofs.Growing.{joined}
use Rattle.chi_cover.proofs.Lists.{on_ok}
use Rattle.chi_cover.proofs.json.add_groups.Goals as goal

pub returns : goal.returns
unfolding groups_json
returns c =
    let group = group_json c.args.plan.now (count_in c.args.covered.now) in
    let operations = rw (c.deref.ensures.value, c.in_ok-operation_bins.ensures) at c.in_ok-add_group.ensures in
    let compares = rw (c.deref-2.ensures.value, c.in_ok-comparison_bins.ensures) at c.in_ok-add_further_group.ensures in
    let writes = rw (c.deref-3.ensures.value, c.in_ok-enables_bins.ensures) at c.in_ok-add_further_group-2.ensures in
    let results = rw (c.deref-4.ensures.value, c.in_ok-result_bins.ensures) at c.in_ok-add_further_group-3.ensures in
    let opened = rw (c.deref-5.ensures.value, c.in_ok-open_bins.ensures) at c.in_ok-add_further_group-4.ensures in
    let overlaps = rw (c.deref-6.ensures.value, c.in_ok-overlap_bins.ensures) at c.in_ok-add_further_group-5.ensures in
    let requesters = rw (c.deref-7.ensures.value, c.in_ok-requester_bins.ensures) at c.in_ok-add_further_group-6.ensures in
    let sequences = rw (c.deref-8.ensures.value, c.in_ok-sequence_bins.ensures) at c.in_ok-add_further_group-7.ensures in
    let line_sequences = rw (c.deref-9.ensures.value, c.in_ok-line_sequence_bins.ensures) at c.add_further_group-8.ensures in
    let last = further group (codes "line sequences", line_sequence_bins) in
    on_ok c.add_further_group-8.result line_sequences
    (λ end.
    joined c.args.to.now.items c.add_group.new.to.items _ (group (codes "operations", operation_bins)) _ operations
    (joined c.add_group.new.to.items c.add_further_group.new.to.items _ (further group (codes "compares", comparison_bins)) _ compares
    (joined c.add_further_group.new.to.items c.add_further_group-2.new.to.items _ (further group (codes "writes", enables_bins)) _ writes
    (joined c.add_further_group-2.new.to.items c.add_further_group-3.new.to.items _ (further group (codes "results", result_bins)) _ results
    (joined c.add_further_group-3.new.to.items c.add_further_group-4.new.to.items _ (further group (codes "open at once", open_bins)) _ opened
    (joined c.add_further_group-4.new.to.items c.add_further_group-5.new.to.items _ (further group (codes "overlaps", overlap_bins)) _ overlaps
    (joined c.add_further_group-5.new.to.items c.add_further_group-6.new.to.items _ (further group (codes "requesters", requester_bins)) _ requesters
    (joined c.add_further_group-6.new.to.items c.add_further_group-7.new.to.items _ (further group (codes "sequences", sequence_bins)) _ sequences
    (end ∙ ap (λ (l : List ℕ). c.add_further_group-7.new.to.items ++ l) (sym (append-nil last)))))))))))
