-- how far a granule's operations can be explained, by those that were told and are kept
use Rattle.std.specs.Prelude.{is_none}
use Rattle.std.proofs.Common.{◌≡◌, ℕ, ◌-◌, ◌^◌, true, List, All, Option, Some, None, IfSome, sym, ap, subst, ◌∙◌, ◌⊎◌, inl, inr}
use Rattle.chi_events.specs.EventLaws.{OperationsAreTold}
use Rattle.chi_events.specs.Outstanding.{IsOpen}
use Rattle.chi_events.specs.declared.event.Event.{Event}
use Rattle.chi_search.specs.Looks.{Grew, GrewBy}
use Rattle.chi_search.proofs.Growing.{at_least_after, at_least_before}
use Rattle.chi_judge.specs.Reaches.{AreLast, IfStops, IfUndecided, IfWhole, IsJudgeOf, IsStop}
use Rattle.chi_judge.specs.Judges.{JudgeValue}
use Rattle.chi_judge.specs.declared.reach.Reach.{Reach}
use Rattle.chi_judge.specs.declared.reach.Reach.TheVariants.{Whole, Stops, Undecided}
use Rattle.chi_trace.specs.AtPlaces.{GranulesStandAlone}
use Rattle.chi_trace.specs.declared.operation.Operation.{Operation}
use Rattle.chi_trace.specs.Words.{word_or_zero}
use Rattle.chi_watch.specs.Endings.{IsExplainable}
use Rattle.chi_watch.specs.Judged.{judged}
use Rattle.chi_watch.specs.WordsTold.{openings}
use Rattle.chi_watch.specs.Reaching.{IsOfSomeTrace, IsReachedBy, IsReachedIn, ReachesBy}
use Rattle.chi_watch.specs.Watches.{CanBeJudged, HasStopped, HasTaken, IsGranuleOf, IsUnexplained, WatchValue, granule}
use Rattle.chi_watch.specs.declared.ending.FoundAtEnd.{FoundAtEnd}
use Rattle.chi_watch.specs.Followed.{FollowedValue}
use Rattle.chi_watch.proofs.Found.{AreAllKept, keeps_all, not_found_is}
use Rattle.chi_watch.proofs.Verdicts.{is_judge}

-- what is said of the operations that are kept, whichever it is
pub reaches_by : (r : JudgeValue) (reach : Reach) → IfWhole reach (λ words. (trace : List Operation) (g w : ℕ) → IsJudgeOf trace g w r → AreLast trace g w words)
    → IfStops reach (λ stop. (trace : List Operation) (g w : ℕ) → IsJudgeOf trace g w r → IsStop trace g w r.shown stop) → ReachesBy r reach
reaches_by r (Whole words) whole stops trace g w is = whole trace g w is
reaches_by r (Stops stop) whole stops trace g w is = stops trace g w is
reaches_by r Undecided whole stops trace g w is = tt

-- where it is not known, what follows of what is said
pub undecided_weaker : {A B : Type 0} (reach : Reach) → (A → B) → IfUndecided reach A → IfUndecided reach B
undecided_weaker (Whole words) f is = tt
undecided_weaker (Stops stop) f is = tt
undecided_weaker Undecided f is = f is

-- the operations of a granule that can be judged count as told
pub judged_here : OperationsAreTold → (events : List Event) (w : WatchValue) → All (IsOpen w.outstanding.time) w.outstanding.requests → HasTaken events w
    → (g : ℕ) (f : FollowedValue) → granule w g ≡ Some f → CanBeJudged w g → IsJudgeOf (judged events) g (word_or_zero (openings events) g) f.judge
judged_here law events w are_open (ended, is) g f here can =
    is_judge law events ended w.outstanding g is.tells (2 ^ 64 - 1) f.judge all.told all.are all.keeps
  where
    all : AreAllKept events ended w.outstanding g f
    all = keeps_all events ended w are_open is g f here can

-- so many are shown of one that is watched
pub shown_here : (events : List Event) (w : WatchValue) → HasTaken events w → (g : ℕ) (f : FollowedValue) → granule w g ≡ Some f → f.judge.shown ≡ w.shown
shown_here events w (ended, is) g f here = (subst (IsGranuleOf w.shown events ended w.outstanding g) here (is.each g)).shown_is

-- of a granule that is unexplained all is told
pub unexplained_known : (events : List Event) (w : WatchValue) → HasTaken events w → (g : ℕ) (f : FollowedValue) → granule w g ≡ Some f → IsUnexplained events g → is_none f.unknown_since ≡ true
unexplained_known events w (ended, is) g f here not = ap is_none (subst (IsGranuleOf w.shown events ended w.outstanding g) here (is.each g)).since ∙ not.known

-- how far that is, or how many states were looked at, which are no fewer from others
module _ {P : Type 0} (states : P → ℕ → Type 0) (old new before after : P) (wider : (least : ℕ) → GrewBy states old new least → GrewBy states before after least) (budget : ℕ) where
  pub reached_wider : (reach : Reach) (cut_short : Option ℕ) → IsReachedBy states old new budget reach cut_short → IsReachedBy states before after budget reach cut_short
  reached_wider reach None is = undecided_weaker reach (wider budget) is
  reached_wider reach (Some most) is = wider most is

  reached_in : (granules : ℕ → Option FollowedValue) (found : FoundAtEnd) → IsReachedIn states old new budget granules found → IsReachedIn states before after budget granules found
  reached_in granules found = by_granule (granules found.granule)
    where
      by_granule : (o : Option FollowedValue) → IfSome o (λ f. IsOfSomeTrace f.judge → IsReachedBy states old new budget found.reach found.cut_short)
          → IfSome o (λ f. IsOfSomeTrace f.judge → IsReachedBy states before after budget found.reach found.cut_short)
      by_granule None is = tt
      by_granule (Some f) is = λ some. reached_wider found.reach found.cut_short (is some)

module _ {P : Type 0} (states : P → ℕ → Type 0) (old middle new : P) (budget : ℕ) (granules : ℕ → Option FollowedValue) where
  pub reached_then : Grew states middle new → (found : FoundAtEnd) → IsReachedIn states old middle budget granules found → IsReachedIn states old new budget granules found
  reached_then more found = reached_in states old middle old new (λ least is. at_least_before states old middle new least is more) budget granules found

  pub reached_after : Grew states old middle → (found : FoundAtEnd) → IsReachedIn states middle new budget granules found → IsReachedIn states old new budget granules found
  reached_after before found = reached_in states middle new old new (λ least is. at_least_after states old middle new least before is) budget granules found

-- a granule that is not watched is not unexplained
pub untold_explained : OperationsAreTold → GranulesStandAlone → (events : List Event) (w : WatchValue) → All (IsOpen w.outstanding.time) w.outstanding.requests → HasTaken events w
    → (g : ℕ) → granule w g ≡ None → CanBeJudged w g → IsUnexplained events g → ⊥
untold_explained operations_law granules_law events w are_open has g none (inl quiet) not =
    elim (not_found_is operations_law granules_law ⊥ events w are_open has g quiet (subst (λ o. IfSome o (λ f. f.unknown_since ≡ None → IsExplainable f ⊎ ⊥)) (sym none) tt) not.known) [
      | inl can ↦ not.none can
      | inr never ↦ never
    ]
untold_explained operations_law granules_law events w are_open has g none (inr stopped) not = absurd (subst HasStopped none stopped)
