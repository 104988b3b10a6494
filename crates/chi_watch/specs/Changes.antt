-- changes of the granules that are watched
use Rattle.std.specs.Prelude.{◌≡◌, ℕ, ◌+◌, ◌/◌, ◌^◌, ◌<◌, ◌≤◌, ◌⊎◌, Bool, true, List, [], ◌∷◌, ◌++◌, Option, Some, None, false, option_to_list}
use Rattle.chi_events.specs.declared.event.EventKind.{EventKind}
use Rattle.chi_events.specs.declared.event.WordTold.{WordTold}
use Rattle.chi_events.specs.declared.outstanding.Open.{Open}
use Rattle.chi_events.specs.declared.event.EventKind.TheVariants.{Request, Word, Final, Unknown}
use Rattle.chi_judge.specs.Judges.{JudgeValue, Keeps}
use Rattle.chi_judge.specs.Until.{cut_before, until}
use Rattle.chi_trace.specs.Granules.{granule_of}
use Rattle.chi_trace.specs.declared.operation.Operation.{Operation}
use Rattle.chi_watch.specs.Followed.{FollowedValue}
use Rattle.chi_watch.specs.WordsTold.{covers, write_at}
use Rattle.chi_events.specs.Granules.{StartsBy}
use Rattle.chi_watch.specs.Watches.{unknown_by}

-- the others stay as they were
abbrev pub OthersStay : (ℕ → Option FollowedValue) → (ℕ → Option FollowedValue) → ℕ → Type 0
OthersStay old new g = (h : ℕ) → (h ≡ g → ⊥) → new h ≡ old h

-- a granule before its first request, of which so many operations are shown
pub record IsUntouched (shown word : ℕ) (f : FollowedValue) : Type 0 where
  pub keeps : Keeps (word ∷ []) [] 0 f.judge
  pub horizon : f.judge.horizon ≡ 0
  pub latest : f.judge.latest ≡ 0
  pub shown_is : f.judge.shown ≡ shown
  pub final_word : f.final_word ≡ None
  pub since : f.unknown_since ≡ None
  pub gaps : f.gaps ≡ []
  pub last : f.last ≡ 0

abbrev pub IsSameOrUntouched : ℕ → ℕ → Option FollowedValue → FollowedValue → Type 0
IsSameOrUntouched shown word None new = IsUntouched shown word new
IsSameOrUntouched shown word (Some old) new = new ≡ old

-- the granule is watched, from this word on where it was not before
pub record IsTouched (shown : ℕ) (old new : ℕ → Option FollowedValue) (g word : ℕ) : Type 0 where
  pub others : OthersStay old new g
  pub followed : FollowedValue
  pub is : new g ≡ Some followed
  pub was : IsSameOrUntouched shown word (old g) followed

-- the operation can be told to the judge of its granule
pub record CanEnd (horizon : ℕ) (r : JudgeValue) (op : Operation) : Type 0 where
  pub past : r.horizon ≤ op.start
  pub starts : horizon ≤ op.start
  pub ends : r.latest ≤ op.end
  pub lasting : op.start ≤ op.end
  pub within : op.access.addr + op.access.len ≤ 2 ^ 52

-- it was told to the judge as far as it had happened before a time
pub record IsHeard (op : Operation) (since : Option ℕ) (horizon : ℕ) (old new : JudgeValue) : Type 0 where
  pub keeps : (words : List ℕ) (told : List Operation) → Keeps words told op.end old → Keeps words (told ++ until since (op ∷ [])) op.end new
  pub horizon_is : (new.horizon ≤ horizon) ⊎ (new.horizon ≡ old.horizon)
  pub latest : new.latest ≤ op.end
  pub shown : new.shown ≡ old.shown

-- one operation more of the granule was told, as far as all that wrote to it is told
pub record IsTold (op : Operation) (horizon : ℕ) (old new : FollowedValue) : Type 0 where
  pub heard : IsHeard op (unknown_by old.gaps old.unknown_since op.start) horizon old.judge new.judge
  pub final_word : new.final_word ≡ old.final_word
  pub since : new.unknown_since ≡ old.unknown_since
  pub gaps : new.gaps ≡ old.gaps
  pub last : new.last ≡ op.end

-- the operation was told of its granule, where it can be
pub record IsToldWherePossible (op : Operation) (horizon : ℕ) (old new : FollowedValue) : Type 0 where
  pub told : CanEnd horizon old.judge op → IsTold op horizon old new
  pub final_word : new.final_word ≡ old.final_word

abbrev pub IsClosed : Operation → ℕ → Option FollowedValue → Option FollowedValue → Type 0
IsClosed op horizon None new = new ≡ None
IsClosed op horizon (Some old) None = ⊥
IsClosed op horizon (Some old) (Some new) = IsToldWherePossible op horizon old new

pub record HasOneMore (op : Operation) (horizon : ℕ) (old new : ℕ → Option FollowedValue) : Type 0 where
  pub others : OthersStay old new (granule_of op)
  pub own : IsClosed op horizon (old (granule_of op)) (new (granule_of op))

-- the operation that ended, if one did, was told with a horizon at or before which no outstanding request of its granule was taken
abbrev pub IsClosedBy : Option Operation → List Open → (ℕ → Option FollowedValue) → (ℕ → Option FollowedValue) → Type 0
IsClosedBy None requests old new = (g : ℕ) → new g ≡ old g
IsClosedBy (Some op) requests old new = (horizon : ℕ) × (horizon ≤ op.start) × StartsBy requests (granule_of op) horizon × HasOneMore op horizon old new

-- one granule was changed, and no other
pub record IsMarked (g : ℕ) (change : FollowedValue → FollowedValue) (old new : ℕ → Option FollowedValue) : Type 0 where
  pub others : OthersStay old new g
  pub before : FollowedValue
  pub was : old g ≡ Some before
  pub is : new g ≡ Some (change before)

-- the granule is watched, from the word 0 on where it was not before, and was changed
pub record IsTouchedAndMarked (shown g : ℕ) (change : FollowedValue → FollowedValue) (old new : ℕ → Option FollowedValue) : Type 0 where
  pub others : OthersStay old new g
  pub followed : FollowedValue
  pub was : IsSameOrUntouched shown 0 (old g) followed
  pub is : new g ≡ Some (change followed)

-- the granule is judged by what had happened before this time
pub record IsCutBefore (time : ℕ) (old new : FollowedValue) : Type 0 where
  pub keeps : (words : List ℕ) (told : List Operation) (now : ℕ) → old.judge.horizon ≤ time → Keeps words told now old.judge → Keeps words (cut_before time told) now new.judge
  pub horizon : new.judge.horizon ≡ old.judge.horizon
  pub latest : new.judge.latest ≡ old.judge.latest
  pub shown : new.judge.shown ≡ old.judge.shown
  pub final_word : new.final_word ≡ old.final_word
  pub since : new.unknown_since ≡ Some time
  pub gaps : new.gaps ≡ old.gaps
  pub last : new.last ≡ old.last

-- from this time on something that is not told may have written to it: as before, where that was so from an earlier time on
abbrev pub IsUnknownSince : Option ℕ → ℕ → FollowedValue → FollowedValue → Type 0
IsUnknownSince None time old new = IsCutBefore time old new
IsUnknownSince (Some earlier) time old new = new ≡ old

-- the same of a granule that is watched from now on, where it was not before
abbrev pub BecomesUnknown : ℕ → ℕ → Option FollowedValue → Option FollowedValue → Type 0
BecomesUnknown shown time old None = ⊥
BecomesUnknown shown time old (Some new) = (before : FollowedValue) × IsSameOrUntouched shown 0 old before × IsUnknownSince before.unknown_since time before new

-- the write that stands for a word was told, where none that is told later starts before it
pub record IsWritten (time : ℕ) (word : WordTold) (old new : JudgeValue) : Type 0 where
  pub keeps : (words : List ℕ) (told : List Operation) (now : ℕ) → now ≤ time → old.latest ≤ time → old.horizon ≤ time → Keeps words told now old
      → Keeps words (told ++ option_to_list (write_at time word)) time new
  pub latest : old.latest ≤ time → old.horizon ≤ time → new.latest ≤ time
  pub horizon : new.horizon ≡ old.horizon
  pub shown : new.shown ≡ old.shown

-- from this time on the granule holds this word, and all that writes to it is told; from an earlier time on it was not
pub record IsToldWord (from time : ℕ) (word : WordTold) (old new : FollowedValue) : Type 0 where
  pub written : IsWritten time word old.judge new.judge
  pub final_word : new.final_word ≡ old.final_word
  pub since : new.unknown_since ≡ None
  pub gaps : new.gaps ≡ old.gaps ++ record { since = from; until = time } ∷ []
  pub last : new.last ≡ time

abbrev pub IsKnownFrom : Option ℕ → ℕ → WordTold → FollowedValue → FollowedValue → Type 0
IsKnownFrom None time word old new = new ≡ old
IsKnownFrom (Some since) time word old new = IsToldWord since time word old new

-- the same of a granule that is watched from this word on, where it was not before
abbrev pub BecomesKnown : ℕ → ℕ → WordTold → Option FollowedValue → Option FollowedValue → Type 0
BecomesKnown shown time word old None = ⊥
BecomesKnown shown time word old (Some new) = (before : FollowedValue) × IsSameOrUntouched shown word.word old before × IsKnownFrom before.unknown_since time word before new

pub record GranuleBecomesKnown (shown time : ℕ) (word : WordTold) (old new : ℕ → Option FollowedValue) : Type 0 where
  pub others : OthersStay old new word.granule
  pub known : BecomesKnown shown time word (old word.granule) (new word.granule)

-- one granule was changed so, and no other
pub record GranuleBecomesUnknown (shown g time : ℕ) (old new : ℕ → Option FollowedValue) : Type 0 where
  pub others : OthersStay old new g
  pub unknown : BecomesUnknown shown time (old g) (new g)

pub record BecomesUnknownWhere (shown : ℕ) (covered : Bool) (time : ℕ) (old new : Option FollowedValue) : Type 0 where
  pub same : covered ≡ false → new ≡ old
  pub unknown : covered ≡ true → BecomesUnknown shown time old new

-- what is noted of the granules by an event of this time
abbrev pub IsUpdated : ℕ → ℕ → EventKind → (ℕ → Option FollowedValue) → (ℕ → Option FollowedValue) → Type 0
IsUpdated shown time (Request r) old new = IsTouched shown old new (r.fields.addr / 8) 0
IsUpdated shown time (Word told) old new = GranuleBecomesKnown shown time told old new
IsUpdated shown time (Final told) old new = IsTouchedAndMarked shown told.granule (λ f. record f { final_word = Some told.word }) old new
IsUpdated shown time (Unknown addr len) old new = (g : ℕ) → BecomesUnknownWhere shown (covers g (Unknown addr len)) time (old g) (new g)
IsUpdated shown time _ old new = (g : ℕ) → new g ≡ old g

-- what was told of the granule by the time before a horizon may be settled
pub record IsSettledAt (horizon : ℕ) (old new : FollowedValue) : Type 0 where
  pub keeps : (words : List ℕ) (told : List Operation) (now : ℕ) → horizon ≤ now + 1 → Keeps words told now old.judge → Keeps words told now new.judge
  pub horizon_is : (new.judge.horizon ≤ horizon) ⊎ (new.judge.horizon ≡ old.judge.horizon)
  pub latest : new.judge.latest ≡ old.judge.latest
  pub shown : new.judge.shown ≡ old.judge.shown
  pub final_word : new.final_word ≡ old.final_word
  pub since : new.unknown_since ≡ old.unknown_since
  pub gaps : new.gaps ≡ old.gaps
  pub last : new.last ≡ old.last

abbrev pub IsSettledWhere : ℕ → Option FollowedValue → Option FollowedValue → Type 0
IsSettledWhere horizon None new = new ≡ None
IsSettledWhere horizon (Some old) None = ⊥
IsSettledWhere horizon (Some old) (Some new) = IsSettledAt horizon old new

-- so of one granule, and no other changes
pub record GranuleIsSettled (g horizon : ℕ) (old new : ℕ → Option FollowedValue) : Type 0 where
  pub others : OthersStay old new g
  pub own : IsSettledWhere horizon (old g) (new g)

-- the bytes that are unknown lie below 2^52
abbrev pub HasLength : EventKind → Type 0
HasLength (Unknown addr len) = (0 < len) × (addr + len ≤ 2 ^ 52)
HasLength _ = Unit {0}
