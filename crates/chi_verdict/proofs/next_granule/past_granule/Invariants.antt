-- the operations so far are of the granule
use Rattle.std.proofs.Common.{◌≡◌, ◌-◌, ◌≤◌, length}
use Rattle.std.specs.List.{AllWithin}
use Rattle.chi_verdict.proofs.next_granule.past_granule.Given as goal

abbrev pub invariant-loop-to : goal.invariant-loop-to
invariant-loop-to l = (l.from ≤ l.to) × (l.to ≤ length l.places) × AllWithin (λ p. p.granule ≡ l.granule) l.places l.from l.to

abbrev pub decreases-loop-to : goal.decreases-loop-to
decreases-loop-to l = length l.places - l.to
