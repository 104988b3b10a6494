-- one operation more
use Rattle.std.proofs.Common.{subst, sym}
use Rattle.chi_cover.specs.Added.{AreAdded}
use Rattle.chi_cover.proofs.StillKept.{none_kept}
use Rattle.chi_cover.proofs.Sums.{added_none, added_then, place_more}
use Rattle.chi_cover.proofs.measured.add_operations.Goals as goal

pub loop-place-init : goal.loop-place-init
loop-place-init c = record {
  added = added_none c.args.counts.now (λ n. (c.type_inv.counts n).fits);
  kept = none_kept c.args.ops.now c.new-kept.result c.new-kept.ensures.empty;
  last = c.none-last.ensures c.args.ops.now;
}

pub loop-place-preserved : goal.loop-place-preserved
loop-place-preserved c =
    let trace = c.args.ops.now in
    let place = c.loop-place.place in
    record {
      added = subst (λ bins. AreAdded bins c.args.counts.now c.add_operation.new.counts) (sym (place_more trace place)) (added_then c.loop-place.invariant.added c.in_ok-add_operation.ensures.added);
      kept = c.in_ok-add_operation.ensures.kept;
      last = c.in_ok-add_operation.ensures.last;
    }
