-- one group after the other
use Rattle.std.proofs.Common.{codes}
use Rattle.chi_cover.specs.Bins.{open_bins, overlap_bins, requester_bins, sequence_bins}
use Rattle.chi_cover.specs.Counts.{count_in}
use Rattle.chi_cover.specs.Plan.{goal_in}
use Rattle.chi_cover.specs.Texts.{group_text, traffic_text}
use Rattle.chi_text.proofs.Growing.{joined}
use Rattle.chi_cover.proofs.Lists.{on_ok}
use Rattle.chi_cover.proofs.table.add_of_traffic.Goals as goal

pub returns : goal.returns
unfolding traffic_text
returns c =
    let text = group_text (goal_in c.args.plan.now) (count_in c.args.covered.now) in
    let opened = rw (c.deref.ensures.value, c.in_ok-open_bins.ensures) at c.in_ok-add_group.ensures in
    let overlapped = rw (c.deref-2.ensures.value, c.in_ok-overlap_bins.ensures) at c.in_ok-add_group-2.ensures in
    let asked = rw (c.deref-3.ensures.value, c.in_ok-requester_bins.ensures) at c.in_ok-add_group-3.ensures in
    let followed = rw (c.deref-4.ensures.value, c.in_ok-sequence_bins.ensures) at c.in_ok-add_group-4.ensures in
    let followed_on_line = rw (c.deref-5.ensures.value, c.in_ok-line_sequence_bins.ensures) at c.add_group-5.ensures in
    on_ok c.add_group-5.result followed_on_line
    (λ end.
    joined c.args.to.now.items c.add_group.new.to.items _ (text (codes "open at once") open_bins) _ opened
    (joined c.add_group.new.to.items c.add_group-2.new.to.items _ (text (codes "overlaps") overlap_bins) _ overlapped
    (joined c.add_group-2.new.to.items c.add_group-3.new.to.items _ (text (codes "requesters") requester_bins) _ asked
    (joined c.add_group-3.new.to.items c.add_group-4.new.to.items _ (text (codes "sequences") sequence_bins) _ followed end))))
