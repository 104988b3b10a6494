-- the bins of one group after those of the other
use Rattle.std.proofs.Common.{◌++◌, ap, ◌∙◌}
use Rattle.chi_cover.specs.Bins.{all_bins, comparison_bins, enables_bins, line_sequence_bins, open_bins, overlap_bins, requester_bins, result_bins, sequence_bins}
use Rattle.chi_text.proofs.Growing.{joined}
use Rattle.chi_cover.proofs.traffic_group.all_bins.Goals as goal

pub returns : goal.returns
unfolding all_bins
returns c =
    let compares = rw (c.deref.ensures.value, c.in_ok-comparison_bins.ensures) at c.in_ok-extend_from_slice.ensures.items in
    let writes = rw (c.deref-2.ensures.value, c.in_ok-enables_bins.ensures) at c.in_ok-extend_from_slice-2.ensures.items in
    let results = rw (c.deref-3.ensures.value, c.in_ok-result_bins.ensures) at c.in_ok-extend_from_slice-3.ensures.items in
    let opened = rw (c.deref-4.ensures.value, c.in_ok-open_bins.ensures) at c.in_ok-extend_from_slice-4.ensures.items in
    let overlaps = rw (c.deref-5.ensures.value, c.in_ok-overlap_bins.ensures) at c.in_ok-extend_from_slice-5.ensures.items in
    let requesters = rw (c.deref-6.ensures.value, c.in_ok-requester_bins.ensures) at c.in_ok-extend_from_slice-6.ensures.items in
    let sequences = rw (c.deref-7.ensures.value, c.in_ok-sequence_bins.ensures) at c.in_ok-extend_from_slice-7.ensures.items in
    let line_sequences = rw (c.deref-8.ensures.value, c.in_ok-line_sequence_bins.ensures) at c.in_ok-extend_from_slice-8.ensures.items in
    joined c.in_ok-bins.bins.items c.extend_from_slice.new.self.items _ comparison_bins _ compares
    (joined c.extend_from_slice.new.self.items c.extend_from_slice-2.new.self.items _ enables_bins _ writes
    (joined c.extend_from_slice-2.new.self.items c.extend_from_slice-3.new.self.items _ result_bins _ results
    (joined c.extend_from_slice-3.new.self.items c.extend_from_slice-4.new.self.items _ open_bins _ opened
    (joined c.extend_from_slice-4.new.self.items c.extend_from_slice-5.new.self.items _ overlap_bins _ overlaps
    (joined c.extend_from_slice-5.new.self.items c.extend_from_slice-6.new.self.items _ requester_bins _ requesters
    (joined c.extend_from_slice-6.new.self.items c.extend_from_slice-7.new.self.items _ sequence_bins line_sequence_bins sequences line_sequences))))))
    ∙ ap (λ bins. bins ++ (comparison_bins ++ (enables_bins ++ (result_bins ++ (open_bins ++ (overlap_bins ++ (requester_bins ++ (sequence_bins ++ line_sequence_bins)))))))) c.in_ok-bins.ensures
