-- the least so far
use Rattle.std.proofs.Common.{ℕ, ◌<◌, ◌≤◌, get_or, length}
use Rattle.chi_cover.proofs.kept.least.Given as goal

abbrev pub invariant-loop-place : goal.invariant-loop-place
invariant-loop-place l = record { within : l.least < length l.ends; below : (k : ℕ) → k < l.place → get_or l.ends l.least 0 ≤ get_or l.ends k 0 }
