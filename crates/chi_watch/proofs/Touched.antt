-- a granule that is watched from now on, where it was not, and then changes
use Rattle.std.proofs.Common.{◌≡◌, ℕ, Option, Some, sym, subst, ◌∙◌}
use Rattle.chi_watch.specs.Changes.{IsSameOrUntouched, IsTouched, OthersStay}
use Rattle.chi_watch.specs.Followed.{FollowedValue}

module _ (n g word : ℕ) (old middle new : ℕ → Option FollowedValue) (t : IsTouched n old middle g word) where
  -- the others stay as they were
  pub others_stay : ((h : ℕ) → (h ≡ g → ⊥) → new h ≡ middle h) → OthersStay old new g
  others_stay same = λ h other. same h other ∙ t.others h other

  -- what was changed is what is watched from now on
  pub was_touched : (f : FollowedValue) → middle g ≡ Some f → IsSameOrUntouched n word (old g) f
  was_touched f here =
      let both : Some t.followed ≡ Some f = sym t.is ∙ here in
      let same : t.followed ≡ f = cc both in
      subst (IsSameOrUntouched n word (old g)) same t.was
