-- the counts are written back, and each bin has its own
use Rattle.std.proofs.Common.{◌≡◌, ap, length, sym, ◌∙◌}
use Rattle.chi_cover.specs.Counts.{count_in, count_of}
use Rattle.chi_cover.specs.Numbers.{number_of}
use Rattle.chi_cover.proofs.Lists.{written}
use Rattle.chi_cover.proofs.Numbered.{within}
use Rattle.chi_cover.proofs.covered.Covered.add.Goals as goal

pub returns-clause-ok : goal.returns-clause-ok
unfolding count_in count_of
returns-clause-ok c bin there =
    let old = c.args.self.now in
    let first : c.deref_mut.result.now ≡ old = c.deref_mut.ensures.value ∙ (c.in_ok-counts.ensures.items ∙ (c.deref.ensures.value ∙ c.self.view_is)) in
    let long : length old ≡ 1410 = ap length (sym c.self.view_is) ∙ c.self.invariant in
    let added = rw first at c.in_ok-add_operations.ensures in
    let size : length c.add_operations.new.counts ≡ c.in_ok-counts.counts.len =
    added.long ∙ (ap length (sym (c.deref.ensures.value ∙ c.self.view_is)) ∙ sym c.in_ok-counts.ensures.len) in
    rw (written c.in_ok-counts.counts.len c.add_operations.new.counts c.in_ok-counts.counts.items size)
    (added.each (number_of bin) (rw long (within bin there)))
