-- granules that are not decided at the end, and up to which time each is explained
use Rattle.std.specs.Prelude.{◌≡◌, ℕ, ◌+◌, ◌*◌, false, length, List, Option, None, Some, IfSome, map}
use Rattle.chi_events.specs.declared.event.Event.{Event}
use Rattle.chi_judge.specs.Explained.{IsAsFarUnless}
use Rattle.chi_search.specs.Looks.{GrewBy}
use Rattle.chi_judge.specs.Judges.{JudgeValue}
use Rattle.chi_judge.specs.Reaches.{IsExplained, IsJudgeOf}
use Rattle.chi_trace.specs.declared.operation.Operation.{Operation}
use Rattle.chi_trace.specs.Words.{word_or_zero}
use Rattle.chi_watch.specs.Judged.{judged}
use Rattle.chi_watch.specs.WordsTold.{openings}
use Rattle.chi_watch.specs.Followed.{FollowedValue}
use Rattle.chi_watch.specs.declared.undecided.UndecidedAtEnd.{UndecidedAtEnd}

-- the granules that are not decided
abbrev pub undecided_of : List UndecidedAtEnd → List ℕ
undecided_of undecided = map (λ u. u.granule) undecided

-- the granule is watched, and its judge has not stopped
abbrev pub GoesOnAt : Option FollowedValue → Type 0
GoesOnAt None = ⊥
GoesOnAt (Some f) = f.judge.is_stopped ≡ false

-- up to the time, where there is one, some order explains the operations that were told, in whichever trace they are
abbrev pub AreExplainedTo : JudgeValue → Option ℕ → Type 0
AreExplainedTo r found = IfSome found (λ time. (trace : List Operation) (g w : ℕ) → IsJudgeOf trace g w r → IsExplained time trace g w)

-- and they are explained as far as was found
abbrev pub AreExplainedAsFar : {P : Type 0} → (P → ℕ → Type 0) → P → P → ℕ → JudgeValue → Option ℕ → Type 0
AreExplainedAsFar states old new budget r found = (trace : List Operation) (g w : ℕ) → IsJudgeOf trace g w r → IsAsFarUnless (GrewBy states old new budget) trace g w found

-- so of a granule that is watched
abbrev pub IsExplainedIn : (ℕ → Option FollowedValue) → UndecidedAtEnd → Type 0
IsExplainedIn granules u = IfSome (granules u.granule) (λ f. AreExplainedTo f.judge u.explained)

abbrev pub IsAsFarIn : {P : Type 0} → (P → ℕ → Type 0) → P → P → ℕ → (ℕ → Option FollowedValue) → UndecidedAtEnd → Type 0
IsAsFarIn states old new budget granules u = IfSome (granules u.granule) (λ f. AreExplainedAsFar states old new budget f.judge u.explained)

-- up to the time that is told, where one is, some order explains what is judged of the granule, from its word at the opening on
abbrev pub IsExplainedTo : List Event → UndecidedAtEnd → Type 0
IsExplainedTo events u = IfSome u.explained (λ time. IsExplained time (judged events) u.granule (word_or_zero (openings events) u.granule))

-- and it is explained as far as was found
abbrev pub IsExplainedAsFar : {P : Type 0} → (P → ℕ → Type 0) → P → P → ℕ → List Event → UndecidedAtEnd → Type 0
IsExplainedAsFar states old new budget events u = IsAsFarUnless (GrewBy states old new budget) (judged events) u.granule (word_or_zero (openings events) u.granule) u.explained

-- one budget for each granule that is not decided, and one more
abbrev pub states_for : ℕ → List UndecidedAtEnd → ℕ
states_for budget undecided = budget * length undecided + budget
