-- the most of the first operations, and the ends that are kept are those of them that no later one can start after
use Rattle.std.proofs.Common.{◌≡◌, ℕ, ◌≤◌, nat_le, All, filter, take}
use Rattle.chi_verdict.specs.Open.{most_at_once}
use Rattle.chi_verdict.proofs.Counting.{ends_of}
use Rattle.chi_verdict.proofs.open.most_at_once.Given as goal

abbrev pub invariant-loop-op : goal.invariant-loop-op
invariant-loop-op l = record {
  most : l.most ≡ most_at_once (take l.op-index l.ops);
  kept : (time : ℕ) → All (λ op. op.start ≤ time) (take l.op-index l.ops) → filter (nat_le time) l.ends.items ≡ filter (nat_le time) (ends_of (take l.op-index l.ops));
}
