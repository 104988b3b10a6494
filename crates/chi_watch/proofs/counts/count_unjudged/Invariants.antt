-- what was counted and what is left make the whole
use Rattle.std.proofs.Common.{◌≡◌, ◌+◌, ◌-◌, ◌^◌, ◌≤◌, min, is_some, count_by}
use Rattle.chi_watch.proofs.counts.count_unjudged.Given as goal

abbrev pub invariant-loop-kept : goal.invariant-loop-kept
invariant-loop-kept l = (l.count ≤ 2 ^ 64 - 1) × (min (l.count + count_by (λ e. is_some e.1.unknown_since) l.kept-iterator) (2 ^ 64 - 1) ≡ min (count_by (λ e. is_some e.1.unknown_since) l.granules.entries) (2 ^ 64 - 1))
