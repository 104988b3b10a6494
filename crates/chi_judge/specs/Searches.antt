-- what the searches for the reach find, whichever trace the operations are of
use Rattle.std.specs.Prelude.{ℕ, ◌+◌, ◌<◌, ◌≤◌, nat_le, Bool, ◌&&◌, List, IsTrue, ◌↔◌}
use Rattle.std.specs.List.{Contains}
use Rattle.chi_trace.specs.Cuts.{cut}
use Rattle.chi_trace.specs.Explains.{at}
use Rattle.chi_trace.specs.declared.operation.Operation.{Operation}
use Rattle.chi_judge.specs.Reaches.{CanLeave, IsExplained, IsJudgeOf}
use Rattle.chi_judge.specs.Judges.{JudgeValue}

-- no order explains them up to the time
abbrev pub IsUnexplained : JudgeValue → ℕ → Type 0
IsUnexplained r time = (trace : List Operation) (g w : ℕ) → IsJudgeOf trace g w r → IsExplained time trace g w → ⊥

-- what is not kept had ended before the time after, or starts later
pub record IsSeen (r : JudgeValue) (time : ℕ) : Type 0 where
  pub since : r.since ≤ time + 1
  pub before : IsTrue r.is_stopped → time < r.horizon

-- the first so many operations end before the horizon, where it has stopped
abbrev pub AreSeen : JudgeValue → List Operation → ℕ → Type 0
AreSeen r ops count = (i : ℕ) → i < count → IsTrue r.is_stopped → (at ops i).end < r.horizon

-- it had started by the time, and had not ended before
abbrev pub is_during : ℕ → Operation → Bool
is_during time op = nat_le op.start time && nat_le time op.end

-- these are the words that the granule's operations can leave by the time
abbrev pub AreWordsBy : JudgeValue → ℕ → List ℕ → Type 0
AreWordsBy r time each = IsSeen r time → (trace : List Operation) (g w : ℕ) → IsJudgeOf trace g w r → (v : ℕ) → Contains each v ↔ CanLeave (cut time trace) g w v
