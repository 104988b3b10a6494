-- a granule that is watched
use Rattle.std.specs.Prelude.{ℕ, List, Option}
use Rattle.chi_judge.specs.Judges.{JudgeValue}
use Rattle.chi_watch.specs.declared.followed.Gap.{Gap}

-- The judge of its operations that have ended; the word after its last request, where it was told; from which time on something that
-- is not told may have written to it, where it may, and the times in which it may have before; and when the last of its operations
-- ended or its word was told.
pub record FollowedValue : Type 0 where
  pub judge : JudgeValue
  pub final_word : Option ℕ
  pub unknown_since : Option ℕ
  pub gaps : List Gap
  pub last : ℕ
