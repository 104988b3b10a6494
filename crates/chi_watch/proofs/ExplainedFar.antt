-- how far a granule's operations are seen to be explained, by more states
use Rattle.std.proofs.Common.{ℕ, Option, Some, None, IfSome}
use Rattle.chi_search.specs.Looks.{Grew, GrewBy}
use Rattle.chi_search.proofs.Growing.{at_least_after, at_least_before}
use Rattle.chi_judge.proofs.AsFar.{as_far_by}
use Rattle.chi_watch.specs.Undecided.{AreExplainedAsFar, IsAsFarIn}
use Rattle.chi_watch.specs.Followed.{FollowedValue}
use Rattle.chi_watch.specs.declared.undecided.UndecidedAtEnd.{UndecidedAtEnd}

module _ {P : Type 0} (looked : P → ℕ → Type 0) (old new before after : P) (budget more : ℕ) (spent : GrewBy looked old new budget → GrewBy looked before after more) where
  -- where these are known from those, it is as far by them
  pub as_far_in : (granules : ℕ → Option FollowedValue) (u : UndecidedAtEnd) → IsAsFarIn looked old new budget granules u → IsAsFarIn looked before after more granules u
  as_far_in granules u = by_granule (granules u.granule)
    where
      by_granule : (o : Option FollowedValue) → IfSome o (λ f. AreExplainedAsFar looked old new budget f.judge u.explained) → IfSome o (λ f. AreExplainedAsFar looked before after more f.judge u.explained)
      by_granule None is = tt
      by_granule (Some f) is = λ trace g w of_judge. as_far_by (GrewBy looked old new budget) (GrewBy looked before after more) spent trace g w u.explained (is trace g w of_judge)

-- by one search after another
module _ {P : Type 0} (looked : P → ℕ → Type 0) (old middle new : P) (budget : ℕ) (granules : ℕ → Option FollowedValue) where
  pub far_then : Grew looked middle new → (u : UndecidedAtEnd) → IsAsFarIn looked old middle budget granules u → IsAsFarIn looked old new budget granules u
  far_then more u = as_far_in looked old middle old new budget budget (λ whole. at_least_before looked old middle new budget whole more) granules u

  pub far_after : Grew looked old middle → (u : UndecidedAtEnd) → IsAsFarIn looked middle new budget granules u → IsAsFarIn looked old new budget granules u
  far_after before u = as_far_in looked middle new old new budget budget (λ whole. at_least_after looked old middle new budget before whole) granules u
