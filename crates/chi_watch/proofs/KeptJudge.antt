-- the judge of a granule, however much is kept of that
use Rattle.std.proofs.Common.{◌≡◌, ◌⊎◌, inl, inr, ap}
use Rattle.chi_judge.specs.Settled.{judge_of}
use Rattle.chi_judge.specs.declared.settled.Settled.{Settled}
use Rattle.chi_watch.specs.Kept.{followed_of}
use Rattle.chi_watch.specs.declared.kept.Kept.{Kept}
use Rattle.chi_watch.specs.declared.kept.Kept.TheVariants as kept

pub settled_judge : (k : Kept) (s : Settled) → (k ≡ kept.Settled s) ⊎ (k ≡ kept.Ended s) → (followed_of k).judge ≡ judge_of s
settled_judge k s (inl is) = ap (λ (x : Kept). (followed_of x).judge) is
settled_judge k s (inr is) = ap (λ (x : Kept). (followed_of x).judge) is
