-- the granules so far are watched no further, and the others are as they were
use Rattle.std.proofs.Common.{ℕ, ◌/◌, ◌&&◌, nat_le, nat_lt}
use Rattle.std.specs.BTreeMap.{get}
use Rattle.std.specs.Ordering.{nat_cmp}
use Rattle.chi_watch.specs.Changes.{BecomesUnknownWhere}
use Rattle.chi_watch.proofs.update_granules.tell_each_unknown.Given as goal

abbrev pub invariant-loop-granule : goal.invariant-loop-granule
invariant-loop-granule l = (g : ℕ) → BecomesUnknownWhere l.shown (nat_le (l.addr / 8) g && nat_lt g l.granule) l.time (get nat_cmp l.fn.granules g) (get nat_cmp l.granules g)
