-- what comes of events that are read line by line
use Rattle.std.specs.Prelude.{◌≡◌, ◌≢◌, ℕ, ◌<◌, ◌≤◌, ◌⊎◌, Bool, true, false, List, [], ◌∷◌, ◌++◌, All, length, Option, None, Some, IfSome, Result, Ok, Err, Vec}
use Rattle.std.specs.List.{AllPairs, Contains}
use Rattle.std.specs.declared.alloc.Global.{Global}
use Rattle.chi_events.specs.Ended.{are_ended}
use Rattle.chi_events.specs.declared.event.Event.{Event}
use Rattle.chi_search.specs.Looks.{GrewBy}
use Rattle.chi_watch.specs.Counts.{AreCounted, unjudged}
use Rattle.chi_watch.specs.Endings.{IsListed}
use Rattle.chi_watch.specs.Judged.{CanBeExplained, IsExplained}
use Rattle.chi_watch.specs.Reaching.{IsFoundAtEnd, IsReach, IsReachedBy, granules_of}
use Rattle.chi_watch.specs.Undecided.{IsExplainedAsFar, IsExplainedTo, states_for, undecided_of}
use Rattle.chi_watch.specs.Watches.{HasTaken, IsUnexplained, WatchValue, fault_of}
use Rattle.chi_watch.specs.declared.ending.Ending.{Ending}
use Rattle.chi_watch.specs.declared.fault.WatchFault.{WatchFault}
use Rattle.chi_watch.specs.declared.undecided.UndecidedAtEnd.{UndecidedAtEnd}
use Rattle.chi_watch_text.specs.FoundGranule.{is_found, with_quiet}
use Rattle.chi_watch_text.specs.Kept.{AreKept}
use Rattle.chi_watch_text.specs.Lines.{AreTold, AreToldAll, IsNext, StatesLater, is_blank}
use Rattle.chi_watch_text.specs.Reading.{HasGiven, IsFirstRefused}
use Rattle.chi_watch_text.specs.Waiting.{first_waiting}
use Rattle.chi_watch_text.specs.declared.fault.LinesFault.{LinesFault}
use Rattle.chi_watch_text.specs.declared.fault.LinesFault.TheVariants as fault
use Rattle.chi_watch_text.specs.declared.line_format.LineFormat.{LineFormat}
use Rattle.chi_watch_text.specs.declared.quiet.Quiet.{Quiet}
use Rattle.chi_watch_text.specs.declared.reading.Reading.{Reading}
use Rattle.chi_watch_text.specs.declared.waiting.Waiting.{Waiting}
use Rattle.chi_watch_text.specs.declared.watched.FoundGranule.{FoundGranule}
use Rattle.chi_watch_text.specs.declared.watched.Unfinished.{Unfinished}
use Rattle.chi_watch_text.specs.declared.watched.Watched.{Watched}

-- the watch took the event, and the granule that was answered is one whose operations no order explains
pub record TakesEvent (old : WatchValue) (event : Event) (new : WatchValue) (seen : Option ℕ) : Type 0 where
  pub taken : (events : List Event) → HasTaken events old → HasTaken (events ++ event ∷ []) new
  pub unexplained : IfSome seen (λ g. (events : List Event) → HasTaken events old → IsUnexplained (events ++ event ∷ []) g)

-- the watch took the event of the line with this number, and a granule that became quiet by it is noted
pub record TakesLine (old : WatchValue) (event : Event) (number : ℕ) (quiet : List Quiet) (new : WatchValue) (noted : List Quiet) : Type 0 where
  pub seen : Option ℕ
  pub takes : TakesEvent old event new seen
  pub notes : noted ≡ with_quiet seen number quiet

-- why the event of the line with this number is not taken
abbrev pub IsEventFault : WatchValue → Event → ℕ → LinesFault → Type 0
IsEventFault watch event number fault.Read = ⊥
IsEventFault watch event number (fault.Line n f) = ⊥
IsEventFault watch event number (fault.Event n f) = (n ≡ number) × (fault_of watch event ≡ Some f)
IsEventFault watch event number fault.TooManyLines = ⊥
IsEventFault watch event number fault.Write = ⊥
IsEventFault watch event number fault.Memory = Unit {0}

-- by the events up to one that the line with this number tells no order explains the granule
pub record IsSeenBy (format : LineFormat) (text : List ℕ) (g line : ℕ) : Type 0 where
  pub events : List Event
  pub event : Event
  pub more : List Event
  pub rest : List ℕ
  pub told : AreTold format text line events (event ∷ more) rest
  pub unexplained : IsUnexplained (events ++ event ∷ []) g

-- that is so of one that became quiet by its line
abbrev pub IsQuietBy : LineFormat → List ℕ → Quiet → Type 0
IsQuietBy format text q = IsSeenBy format text q.granule q.line

-- all events of the last time are told: the text tells no other, or the next is of a later time, or a flit is
abbrev pub IsPast : LineFormat → List ℕ → List Event → Type 0
IsPast format text events =
    AreToldAll format text events ⊎ (((e : Event) × IsNext format text events e × All (λ d. d.time < e.time) events) ⊎ StatesLater format text events)

-- No order explains the granule by the lines up to the one that is named, and none does once all events of that time are told. By
-- these its operations can be explained so far, and so many are shown at most before the one that is blamed.
pub record IsFoundBy (format : LineFormat) (text : List ℕ) (shown : ℕ) (f : FoundGranule) : Type 0 where
  pub seen : IsSeenBy format text f.granule f.line
  pub events : List Event
  pub past : IsPast format text events
  pub unexplained : IsUnexplained events f.granule
  pub reach : IsReach shown events f.granule f.reach

-- the granule that became quiet is noted: no order explains it, and its operations can be explained so far
pub record IsNotedAs (w : WatchValue) (q : Quiet) (f : FoundGranule) : Type 0 where
  pub granule : f.granule ≡ q.granule
  pub line : f.line ≡ q.line
  pub unexplained : (events : List Event) → HasTaken events w → IsUnexplained events f.granule
  pub reach : (events : List Event) → HasTaken events w → IsReach w.shown events f.granule f.reach

-- a granule that was found before, or is one of these that became quiet and is still unexplained
abbrev pub IsStillFound : WatchValue → List Quiet → List FoundGranule → FoundGranule → Type 0
IsStillFound w quiet found f = Contains found f ⊎ ((q : Quiet) × Contains quiet q × IsNotedAs w q f)

-- the granule is noted only where no order explains it, and once
abbrev pub IsSettled : WatchValue → Quiet → List FoundGranule → List FoundGranule → Type 0
IsSettled w q old new = (new ≡ old) ⊎ ((f : FoundGranule) × (new ≡ old ++ f ∷ []) × (is_found f.granule old ≡ false) × IsNotedAs w q f)

-- how far each granule that is found more can be explained is known, or so many states were looked at, where the watch took some events
abbrev pub AreReachedBy : {P : Type 0} → WatchValue → (P → ℕ → Type 0) → P → P → ℕ → List FoundGranule → List FoundGranule → Type 0
AreReachedBy w looked old new budget before after =
    (events : List Event) → HasTaken events w → All (λ f. Contains before f ⊎ IsReachedBy looked old new budget f.reach f.cut_short) after

-- What is said of events at their end. Where no granule is listed all that is judged is explained. What is judged of each granule can
-- be explained, or it is listed; no order explains one that is listed as such, and so many of its operations are shown at most; and one
-- that is not decided is explained up to the time that is told.
pub record SaysOf (shown : ℕ) (events : List Event) (ending : Ending) : Type 0 where
  pub whole : ending.unexplained.items ≡ [] → ending.undecided.items ≡ [] → IsExplained events
  pub each : (g : ℕ) → CanBeExplained events g ⊎ IsListed g (granules_of ending.unexplained.items) (undecided_of ending.undecided.items)
  pub unexplained : All (IsFoundAtEnd shown events) ending.unexplained.items
  pub undecided : All (IsExplainedTo events) ending.undecided.items

-- where the reading ends once these events are told: at the end of the text, or, where it does not keep going, once all events are
-- told of a time at which a granule was found
abbrev pub EndsAt : LineFormat → List ℕ → Bool → ℕ → List Event → List FoundGranule → Option Ending → Type 0
EndsAt format text going shown events found (Some ending) = AreToldAll format text events × SaysOf shown events ending × (going ≡ false → found ≡ [])
EndsAt format text going shown events found None = (going ≡ false) × (0 < length found) × IsPast format text events

-- where the events end, the first requests that are outstanding then are listed, with what each waits for
abbrev pub AreListed : LineFormat → List ℕ → List Event → WatchValue → Option Ending → List Waiting → Type 0
AreListed format text events watch None listed = listed ≡ []
AreListed format text events watch (Some ending) listed =
    (count : ℕ) × (rest : List ℕ) × (told : AreTold format text count events [] rest) × (is_blank rest ≡ true) × (listed ≡ first_waiting told.read.seen.flits watch.outstanding.requests)

-- What is found of a text: of so many lines, which tell events that a watch takes. Of a granule that no order explains so many
-- operations are shown at most. Where lines are kept, these are.
pub record IsWatched (format : LineFormat) (text : List ℕ) (going : Bool) (shown : ℕ) (w : Watched) : Type 0 where
  pub events : List Event
  pub count : ℕ
  pub rest : List ℕ
  pub told : AreTold format text count events [] rest
  pub found : All (IsFoundBy format text shown) w.found.items
  pub once : AllPairs (λ a b. a.granule ≢ b.granule) w.found.items
  pub ends : EndsAt format text going shown events w.found.items w.ending
  pub counted : AreCounted events w.counts
  pub watch : WatchValue
  pub taken : HasTaken events watch
  pub listed : AreListed format text events watch w.ending w.waiting.items
  pub granules : w.counts.granules ≡ length watch.granules
  pub unjudged_is : w.unjudged ≡ unjudged watch
  pub ended_is : w.is_ended ≡ are_ended events
  pub kept : AreKept text w.kept rest

-- the line with this number tells the first event that a watch does not take, for this reason
abbrev pub IsNotTaken : LineFormat → List ℕ → ℕ → WatchFault → Type 0
IsNotTaken format text number f =
    (events : List Event) × (e : Event) × (more : List Event) × (rest : List ℕ) × AreTold format text number events (e ∷ more) rest
    × ((w : WatchValue) × HasTaken events w × (fault_of w e ≡ Some f))

-- why a text is watched no further: the first line that is not taken
abbrev pub IsLinesFault : LineFormat → List ℕ → LinesFault → Type 0
IsLinesFault format text fault.Read = Unit {0}
IsLinesFault format text (fault.Line number f) = (events : List Event) × IsFirstRefused format text events number f
IsLinesFault format text (fault.Event number f) = IsNotTaken format text number f
IsLinesFault format text fault.TooManyLines = Unit {0}
IsLinesFault format text fault.Write = ⊥
IsLinesFault format text fault.Memory = Unit {0}

-- the same, or that a granule that was found could not be told
abbrev pub IsWatchingFault : LineFormat → List ℕ → LinesFault → Type 0
IsWatchingFault format text f = f ≢ fault.Write → IsLinesFault format text f

-- what comes of a text: what is found of it, or why it is watched no further, and the granules that were found by then
abbrev pub IsOutcome : LineFormat → List ℕ → Bool → ℕ → Result Watched Unfinished → Type 0
IsOutcome format text going shown (Ok watched) = IsWatched format text going shown watched
IsOutcome format text going shown (Err unfinished) = IsWatchingFault format text unfinished.fault × All (IsFoundBy format text shown) unfinished.found.items

-- what a watch says once its events have ended, or where it stops
pub record IsTold (w : WatchValue) (found : List FoundGranule) (ended : Bool) (kept : Option (Vec ℕ Global)) (watched : Watched) : Type 0 where
  pub found_is : watched.found.items ≡ found
  pub counted : (events : List Event) → HasTaken events w → AreCounted events watched.counts
  pub granules : watched.counts.granules ≡ length w.granules
  pub unjudged_is : watched.unjudged ≡ unjudged w
  pub ended_is : watched.is_ended ≡ ended
  pub kept_is : watched.kept ≡ kept

-- what is said of the events that a watch took
pub record SaysAtEnd (w : WatchValue) (ending : Ending) : Type 0 where
  pub whole : ending.unexplained.items ≡ [] → ending.undecided.items ≡ [] → (events : List Event) → HasTaken events w → IsExplained events
  pub each : (g : ℕ) (events : List Event) → HasTaken events w → CanBeExplained events g ⊎ IsListed g (granules_of ending.unexplained.items) (undecided_of ending.undecided.items)
  pub unexplained : All (λ f. (events : List Event) → HasTaken events w → IsFoundAtEnd w.shown events f) ending.unexplained.items
  pub undecided : All (λ u. (events : List Event) → HasTaken events w → IsExplainedTo events u) ending.undecided.items

-- A watch took the events that the reading has given, of which none is later than this time, and the last is the end or is not. These
-- granules were found by them, and these others became quiet at this time. The rest follows.
pub record AreTaken (text : List ℕ) (time : ℕ) (ended : Bool) (found : List FoundGranule) (quiet : List Quiet) (watch : WatchValue) (r : Reading) (rest : List ℕ) : Type 0 where
  pub events : List Event
  pub given : HasGiven text events r rest
  pub taken : HasTaken events watch
  pub times : All (λ e. e.time ≤ time) events
  pub ended_is : ended ≡ are_ended events
  pub found_by : All (IsFoundBy r.format text watch.shown) found
  pub quiet_by : All (IsQuietBy r.format text) quiet

-- the same of a text that may not be known
abbrev pub HasTakenLines : Option (List ℕ) → ℕ → Bool → List FoundGranule → List Quiet → WatchValue → Reading → Option (List ℕ) → Type 0
HasTakenLines None time ended found quiet watch r rest = Unit {0}
HasTakenLines (Some text) time ended found quiet watch r None = ⊥
HasTakenLines (Some text) time ended found quiet watch r (Some rest) = AreTaken text time ended found quiet watch r rest

-- for each granule that is not decided at least as many states as the budget were looked at
abbrev pub WentBy : {P : Type 0} → (P → ℕ → Type 0) → P → P → ℕ → Watched → Type 0
WentBy looked old new budget watched = IfSome watched.ending (λ ending. All (λ _. GrewBy looked old new budget) ending.undecided.items)

-- each of these is explained as far as was found of the events that the text tells
pub record AreAsFar {P : Type 0} (looked : P → ℕ → Type 0) (old new : P) (budget : ℕ) (format : LineFormat) (text : List ℕ) (undecided : List UndecidedAtEnd) : Type 0 where
  pub events : List Event
  pub told : AreToldAll format text events
  pub far : All (IsExplainedAsFar looked old new (states_for budget undecided) events) undecided

-- so of those that are listed at the end
abbrev pub WentAsFar : {P : Type 0} → (P → ℕ → Type 0) → P → P → ℕ → LineFormat → List ℕ → Watched → Type 0
WentAsFar looked old new budget format text watched = IfSome watched.ending (λ ending. AreAsFar looked old new budget format text ending.undecided.items)

-- and for each of which it is not known how far it can be explained
pub record ReachedBy {P : Type 0} (looked : P → ℕ → Type 0) (old new : P) (budget : ℕ) (watched : Watched) : Type 0 where
  pub found : All (λ f. IsReachedBy looked old new budget f.reach f.cut_short) watched.found.items
  pub at_end : IfSome watched.ending (λ ending. All (λ f. IsReachedBy looked old new budget f.reach f.cut_short) ending.unexplained.items)
