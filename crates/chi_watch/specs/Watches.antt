-- what a watch knows of the events that it took
use Rattle.std.specs.Prelude.{◌≡◌, ℕ, ◌+◌, ◌-◌, ◌/◌, ◌^◌, ◌<◌, ◌≤◌, ◌==◌, ◌⊎◌, length, max, min, nat_le, nat_lt, Bool, true, false, ◌&&◌, ◌||◌, if◌then◌else◌, List, [], ◌∷◌, ◌++◌, All, Option, Some, None, is_none, is_some, option_and_then, option_map, option_to_list, IsTrue, IsPermutation, filter, find, flat_map, map}
use Rattle.std.specs.List.{list_any}
use Rattle.std.specs.BTreeMap.{is_at}
use Rattle.std.specs.Map.{lookup}
use Rattle.std.specs.Option.{option_or}
use Rattle.std.specs.Ordering.{nat_cmp}
use Rattle.chi_events.specs.declared.event.Event.{Event}
use Rattle.chi_events.specs.Outstanding.{OutstandingValue, Tells, fault_of as outstanding_fault}
use Rattle.chi_events.specs.declared.event.EventKind.{EventKind}
use Rattle.chi_events.specs.declared.event.EventKind.TheVariants.{Request, Word, Final, Unknown}
use Rattle.chi_judge.specs.Judges.{Keeps}
use Rattle.chi_judge.specs.Standings.{IsInexplicable}
use Rattle.chi_trace.specs.AtPlaces.{is_in}
use Rattle.chi_trace.specs.declared.operation.Operation.{Operation}
use Rattle.chi_trace.specs.Words.{find_word, word_or_zero}
use Rattle.chi_watch.specs.Followed.{FollowedValue}
use Rattle.chi_watch.specs.declared.fault.WatchFault.{WatchFault}
use Rattle.chi_watch.specs.declared.fault.WatchFault.TheVariants as fault
use Rattle.chi_watch.specs.Faults.{as_watch_fault}
use Rattle.chi_events.specs.Granules.{StartsBy, granule_of_request}
use Rattle.chi_watch.specs.Judged.{CanBeExplained, IsExplainedBy, is_known, judged_part, unknown_at, unknown_since}
use Rattle.chi_watch.specs.WordsTold.{covers, final_words, openings, times_told, writes_told}
use Rattle.chi_watch.specs.declared.followed.Gap.{Gap}

-- the requests that are outstanding, each granule of which something was told, how many operations had ended: 2^64 - 1 stands
-- for that many and more; and how many are shown at most before one that is blamed
pub record WatchValue : Type 0 where
  pub outstanding : OutstandingValue
  pub granules : List (ℕ × FollowedValue)
  pub ended : ℕ
  pub shown : ℕ

-- what is known of a granule
abbrev pub granule : WatchValue → ℕ → Option FollowedValue
granule w g = lookup (is_at (nat_cmp g)) w.granules

-- from which time on something that is not told may have written to the granule, as far as is known
abbrev pub unknown_in : WatchValue → ℕ → Option ℕ
unknown_in w g = option_and_then (λ (f : FollowedValue). f.unknown_since) (granule w g)

-- from which time on that may be so, for an operation that starts at a time: from where the first gap begins that ends later, or now
abbrev pub unknown_by : List Gap → Option ℕ → ℕ → Option ℕ
unknown_by gaps since time = option_or (option_map (λ gap. gap.since) (find (λ gap. nat_lt time gap.until) gaps)) since

-- the operations that had ended and the writes that stand for words, of a granule
abbrev pub told_of : List Event → List Operation → ℕ → List Operation
told_of events ended g = filter (is_in g) (ended ++ writes_told events)

-- the latest of some times, and 0 where there is none
abbrev pub latest_of : List ℕ → ℕ
latest_of [] = 0
latest_of (time ∷ times) = max time (latest_of times)

-- when the last of a granule's operations had ended, or its word was told later
abbrev pub last_time : List Event → List Operation → ℕ → ℕ
last_time events ended g = max (latest_of (map (λ op. op.end) (filter (is_in g) ended))) (latest_of (times_told events g))

-- A granule that is watched: its judge was told its operations that had ended, from its word at the opening on, as far as all that
-- wrote to it is told, and the writes that stand for words. All these started by its last time.
pub record IsWatched (shown : ℕ) (events : List Event) (ended : List Operation) (o : OutstandingValue) (g : ℕ) (f : FollowedValue) : Type 0 where
  pub since : f.unknown_since ≡ unknown_since events g
  pub gaps : (time : ℕ) → unknown_by f.gaps f.unknown_since time ≡ unknown_at events g time
  pub gaps_by : All (λ gap. gap.until ≤ f.last) f.gaps
  pub told : List Operation
  pub told_is : IsPermutation (flat_map (judged_part events) (told_of events ended g)) told
  pub keeps : Keeps (word_or_zero (openings events) g ∷ []) told o.time f.judge
  pub started : All (λ op. op.start ≤ f.last) (told_of events ended g)
  pub last_is : f.last ≡ last_time events ended g
  pub last_by : f.last ≤ o.time
  pub latest : f.judge.latest ≤ o.time
  pub past : f.judge.horizon ≤ o.time
  pub horizon : StartsBy o.requests g f.judge.horizon
  pub shown_is : f.judge.shown ≡ shown
  pub final_word : f.final_word ≡ find_word (final_words events) g

-- nothing was told of the granule
pub record IsUntold (events : List Event) (ended : List Operation) (g : ℕ) : Type 0 where
  pub known : list_any (λ e. covers g e.kind) events ≡ false
  pub none : told_of events ended g ≡ []
  pub times : times_told events g ≡ []
  pub opening : find_word (openings events) g ≡ None
  pub final_word : find_word (final_words events) g ≡ None

abbrev pub IsGranuleOf : ℕ → List Event → List Operation → OutstandingValue → ℕ → Option FollowedValue → Type 0
IsGranuleOf shown events ended o g None = IsUntold events ended g
IsGranuleOf shown events ended o g (Some f) = IsWatched shown events ended o g f

-- the watch took these events, by which these operations had ended
pub record Watches (events : List Event) (ended : List Operation) (w : WatchValue) : Type 0 where
  pub tells : Tells events ended w.outstanding
  pub time : w.outstanding.time < 2 ^ 64
  pub each : (g : ℕ) → IsGranuleOf w.shown events ended w.outstanding g (granule w g)
  pub requested : All (λ p. IsTrue (is_some (granule w (granule_of_request p)))) w.outstanding.requests
  pub count : w.ended ≡ min (length ended) (2 ^ 64 - 1)

abbrev pub HasTaken : List Event → WatchValue → Type 0
HasTaken events w = (ended : List Operation) × Watches events ended w

-- one event more is taken, and this operation ends by it, if one does
abbrev pub Takes : Event → Option Operation → WatchValue → WatchValue → Type 0
Takes e ended old new = (events : List Event) (past : List Operation) → Watches events past old → Watches (events ++ e ∷ []) (past ++ option_to_list ended) new

-- All that wrote to the granule is told, and no order explains its operations, from its word at the opening to the one that was
-- told at the end.
pub record IsUnexplained (events : List Event) (g : ℕ) : Type 0 where
  pub known : is_known events g ≡ true
  pub none : CanBeExplained events g → ⊥
  pub whole : (order : List ℕ) → IsExplainedBy events order → ⊥

-- what was told of the granule is known not to be explained
abbrev pub HasStopped : Option FollowedValue → Type 0
HasStopped None = ⊥
HasStopped (Some f) = IsTrue f.judge.is_stopped

-- no request of the granule is outstanding, or what was told of it is known not to be explained
abbrev pub CanBeJudged : WatchValue → ℕ → Type 0
CanBeJudged w g = (list_any (λ p. granule_of_request p == g) w.outstanding.requests ≡ false) ⊎ HasStopped (granule w g)

-- All that wrote to the granule is told, and no order explains what was told of it.
pub record IsFound (w : WatchValue) (g : ℕ) : Type 0 where
  pub followed : FollowedValue
  pub is : granule w g ≡ Some followed
  pub since : followed.unknown_since ≡ None
  pub judged : CanBeJudged w g
  pub none : IsInexplicable followed.judge followed.final_word

-- why the granules do not take an event
abbrev pub has_final_word : Option FollowedValue → Bool
has_final_word None = false
has_final_word (Some f) = is_some f.final_word

abbrev pub final_fault : Bool → Bool → Option WatchFault
final_fault find_word outstanding = if find_word then Some fault.FinalTwice else if outstanding then Some fault.FinalEarly else None

-- Once something was told of a granule its word is told only where that is not known, and no request of it is outstanding or ended at
-- that time.
abbrev pub later_word_fault : ℕ → FollowedValue → Bool → Option WatchFault
later_word_fault time f outstanding =
    if is_some f.final_word || is_none f.unknown_since then Some fault.WordLate
    else if outstanding || nat_le time f.last then Some fault.WordEarly
    else None

abbrev pub word_fault : ℕ → Option FollowedValue → Bool → Option WatchFault
word_fault time None outstanding = None
word_fault time (Some f) outstanding = later_word_fault time f outstanding

abbrev pub length_fault : ℕ → ℕ → Option WatchFault
length_fault addr len = if nat_lt 0 len && nat_le len 4096 && nat_le (addr + len) (2 ^ 52) then None else Some fault.TooLong

abbrev pub granule_fault : WatchValue → ℕ → EventKind → Option WatchFault
granule_fault w time (Request r) = if has_final_word (granule w (r.fields.addr / 8)) then Some fault.AfterFinal else None
granule_fault w time (Word told) = word_fault time (granule w told.granule) (list_any (λ p. granule_of_request p == told.granule) w.outstanding.requests)
granule_fault w time (Final told) = final_fault (has_final_word (granule w told.granule)) (list_any (λ p. granule_of_request p == told.granule) w.outstanding.requests)
granule_fault w time (Unknown addr len) = length_fault addr len
granule_fault w time _ = None

-- why an event cannot be taken, if it cannot
abbrev pub fault_of : WatchValue → Event → Option WatchFault
fault_of w e = option_or (granule_fault w e.time e.kind) (option_map as_watch_fault (outstanding_fault w.outstanding e))
