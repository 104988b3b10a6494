-- how far a granule's operations can be explained
use Rattle.std.specs.Prelude.{◌≡◌, ℕ, ◌-◌, ◌^◌, List, Option, IfSome, MatchOption, map}
use Rattle.chi_events.specs.declared.event.Event.{Event}
use Rattle.chi_search.specs.Looks.{GrewBy}
use Rattle.chi_judge.specs.Reaches.{AreLast, IfUndecided, IsJudgeOf, IsStop}
use Rattle.chi_judge.specs.Judges.{JudgeValue}
use Rattle.chi_judge.specs.declared.reach.Reach.{Reach}
use Rattle.chi_judge.specs.declared.reach.Reach.TheVariants.{Whole, Stops, Undecided}
use Rattle.chi_trace.specs.declared.operation.Operation.{Operation}
use Rattle.chi_trace.specs.Words.{word_or_zero}
use Rattle.chi_watch.specs.Endings.{judged_word}
use Rattle.chi_watch.specs.Judged.{CanBeExplained, IsExplained, final_of, judged}
use Rattle.chi_watch.specs.WordsTold.{openings}
use Rattle.chi_watch.specs.declared.ending.FoundAtEnd.{FoundAtEnd}
use Rattle.chi_watch.specs.Followed.{FollowedValue}

-- the granule's operations in a trace can be explained so far, from this word on, and so many are shown at most
abbrev pub IsReachIn : ℕ → List Operation → ℕ → ℕ → Reach → Type 0
IsReachIn shown trace g w (Whole words) = AreLast trace g w words
IsReachIn shown trace g w (Stops stop) = IsStop trace g w shown stop
IsReachIn shown trace g w Undecided = Unit {0}

-- those that are judged, from its word at the opening on
abbrev pub IsReach : ℕ → List Event → ℕ → Reach → Type 0
IsReach shown events g reach = IsReachIn shown (judged events) g (word_or_zero (openings events) g) reach

-- those of which the last are kept, in whichever trace they are
abbrev pub ReachesBy : JudgeValue → Reach → Type 0
ReachesBy r reach = (trace : List Operation) (g w : ℕ) → IsJudgeOf trace g w r → IsReachIn r.shown trace g w reach

-- the operations that are kept are those of a granule in some trace
abbrev pub IsOfSomeTrace : JudgeValue → Type 0
IsOfSomeTrace r = (trace : List Operation) × (g : ℕ) × (w : ℕ) × IsJudgeOf trace g w r

-- what is said of a granule at the end: its word, and how far its operations can be explained
pub record IsFoundIn (granules : ℕ → Option FollowedValue) (found : FoundAtEnd) : Type 0 where
  pub final_word : IfSome (granules found.granule) (λ f. found.final_word ≡ judged_word f)
  pub reach : IfSome (granules found.granule) (λ f. ReachesBy f.judge found.reach)

-- At least so many states were looked at where it is not known how far that is. Where that was cut short, at least as many were as is
-- said, whatever is known.
abbrev pub IsReachedBy : {P : Type 0} → (P → ℕ → Type 0) → P → P → ℕ → Reach → Option ℕ → Type 0
IsReachedBy states old new budget reach cut_short = MatchOption cut_short (IfUndecided reach (GrewBy states old new budget)) (GrewBy states old new)

-- so of a granule that is watched
abbrev pub IsReachedIn : {P : Type 0} → (P → ℕ → Type 0) → P → P → ℕ → (ℕ → Option FollowedValue) → FoundAtEnd → Type 0
IsReachedIn states old new budget granules found = IfSome (granules found.granule) (λ f. IsOfSomeTrace f.judge → IsReachedBy states old new budget found.reach found.cut_short)

-- the time up to which no order explains them, where it is known, and else the last
abbrev pub stop_time : Reach → ℕ
stop_time (Whole words) = 2 ^ 64 - 1
stop_time (Stops stop) = stop.time
stop_time Undecided = 2 ^ 64 - 1

-- the granules that are found at the end
abbrev pub granules_of : List FoundAtEnd → List ℕ
granules_of found = map (λ f. f.granule) found

-- No order explains what is judged of the granule. The word is the one that was told of it at the end, and its operations can be
-- explained so far.
pub record IsFoundAtEnd (shown : ℕ) (events : List Event) (found : FoundAtEnd) : Type 0 where
  pub none : CanBeExplained events found.granule → ⊥
  pub whole : IsExplained events → ⊥
  pub final_word : found.final_word ≡ final_of events found.granule
  pub reach : IsReach shown events found.granule found.reach
