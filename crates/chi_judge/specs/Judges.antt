-- the operations of one granule that are kept, to say where they stop being explained
use Rattle.std.specs.Prelude.{◌≡◌, ℕ, ◌+◌, ◌^◌, ◌<◌, ◌≤◌, Bool, true, false, List, [], ◌++◌, All, IfSome, IsTrue, Option, Some, length, take}
use Rattle.std.specs.List.{AllPairs}
use Rattle.chi_search.specs.Frontiers.{EndsWith, Follows, FrontierValue, GoesAlong, MayBeTold}
use Rattle.chi_search.specs.Layers.{SomeLeads}
use Rattle.chi_trace.specs.AtPlaces.{at_places}
use Rattle.chi_trace.specs.Cuts.{cut}
use Rattle.chi_trace.specs.Granules.{Fits, next}
use Rattle.chi_trace.specs.declared.operation.Operation.{Operation}
use Rattle.chi_judge.specs.Shown.{EndsNoLater, last_of}

-- The search over the operations before those that are kept, the last of the operations that were left to it, so many at most, and
-- those that are kept, with searches along orders that were told the first so many of these; and a word to which all that was told
-- leads, where one is known. None that is kept ended before `since`, and none that is told later starts before the horizon, or ends
-- before the latest end. Where they are known not to be explained up to the time before the horizon, it has stopped.
pub record JudgeValue : Type 0 where
  pub before : FrontierValue
  pub left : List Operation
  pub shown : ℕ
  pub kept : List Operation
  pub ahead : List FrontierValue
  pub seen : ℕ
  pub word : Option ℕ
  pub since : ℕ
  pub horizon : ℕ
  pub latest : ℕ
  pub is_stopped : Bool

-- it has stopped, since what had happened before the horizon is not explained
abbrev pub stopped_at : ℕ → JudgeValue → JudgeValue
stopped_at horizon r = record r { horizon = horizon; is_stopped = true }

-- what the search follows, and then these operations, lead to some word
abbrev pub GoesOn : FrontierValue → List Operation → Type 0
GoesOn f more = (words : List ℕ) (told : List Operation) → Follows words told f → (v : ℕ) × SomeLeads (told ++ more) words v

-- what the search follows leads to the word
abbrev pub LeadsTo : FrontierValue → ℕ → Type 0
LeadsTo f v = (words : List ℕ) (told : List Operation) → Follows words told f → SomeLeads told words v

-- they lead to none
abbrev pub GoesNowhere : FrontierValue → List Operation → Type 0
GoesNowhere f more = (words : List ℕ) (told : List Operation) → Follows words told f → (v : ℕ) → SomeLeads (told ++ more) words v → ⊥

-- These are the last operations, so many at most, of some order of what the search follows and then of these: it is the end of one of
-- all that was told.
pub record IsEndOfSome (f : FrontierValue) (more : List Operation) (most : ℕ) (last : List Operation) : Type 0 where
  pub order : List ℕ
  pub last_is : last ≡ last_of most (at_places (f.operations ++ more) order)
  pub ends : (words : List ℕ) (told : List Operation) → Follows words told f → EndsWith (told ++ more) words (at_places (f.operations ++ more) order)

-- what had happened by a time leads to some word
abbrev pub LeadsBy : ℕ → List ℕ → List Operation → Type 0
LeadsBy time words told = (v : ℕ) × SomeLeads (cut time told) words v

-- the operation fits the word that the others left, and leaves this one of it
pub record Leaves (word : Option ℕ) (op : Operation) (after : ℕ) : Type 0 where
  pub found : ℕ
  pub is_word : word ≡ Some found
  pub fits : Fits op found
  pub after_is : after ≡ next op found
  pub below : after < 2 ^ 64

-- the operand lies within 2^52 bytes
abbrev pub LiesWithin : Operation → Type 0
LiesWithin op = op.access.addr + op.access.len ≤ 2 ^ 52

-- what is always true of it: those that are kept may be told to the search before them, and another after them
pub record IsJudge (r : JudgeValue) : Type 0 where
  pub next : MayBeTold r.before r.kept
  pub within : All LiesWithin r.kept
  pub ended : All (λ op. op.end ≤ r.latest) r.kept
  pub horizon_by : r.before.horizon ≤ r.horizon
  pub latest_by : r.before.latest ≤ r.latest

-- it ended before a time, and no earlier than it started
abbrev pub EndedBefore : ℕ → Operation → Type 0
EndedBefore time op = (op.start ≤ op.end) × (op.end < time)

-- it ended between two times, these included
abbrev pub EndedWithin : ℕ → ℕ → Operation → Type 0
EndedWithin since now op = (since ≤ op.end) × (op.end ≤ now)

-- Of the operations that were told in the order of their ends, none later than now, the search follows the earlier ones, of which
-- the last are known, and the next are kept. Those after them are left out, once it has stopped. Up to the time before the first
-- end that may be kept some order explains what was told; where it has stopped, none does up to the time before the horizon.
pub record Keeps (words : List ℕ) (told : List Operation) (now : ℕ) (r : JudgeValue) : Type 0 where
  pub earlier : List Operation
  pub later : List Operation
  pub parts : told ≡ earlier ++ (r.kept ++ later)
  pub follows : Follows words earlier r.before
  pub left : r.left ≡ last_of r.shown earlier
  pub in_order : AllPairs EndsNoLater earlier
  pub ended : All (EndedBefore r.since) earlier
  pub next : MayBeTold r.before r.kept
  pub within : All LiesWithin r.kept
  pub ends : All (EndedWithin r.since now) r.kept
  pub ahead : All (GoesAlong words (earlier ++ take r.seen r.kept)) r.ahead
  pub seen : r.seen ≤ length r.kept
  pub late : All (λ op. r.horizon ≤ op.start) later
  pub goes_on : r.is_stopped ≡ false → later ≡ []
  pub since_by : r.since ≤ r.horizon
  pub past : r.since ≤ now + 1
  pub explained : (time : ℕ) → time + 1 ≡ r.since → LeadsBy time words told
  pub known : r.is_stopped ≡ false → IfSome r.word (SomeLeads told words)
  pub stopped : IsTrue r.is_stopped → (time : ℕ) × (time + 1 ≡ r.horizon) × ((v : ℕ) → SomeLeads (cut time told) words v → ⊥)

-- the operation may be told next
pub record CanBeKept (r : JudgeValue) (op : Operation) : Type 0 where
  pub ends : r.latest ≤ op.end
  pub starts : r.horizon ≤ op.start
  pub lasting : op.start ≤ op.end
  pub within : LiesWithin op

-- no operation that is told later starts before the horizon, and up to the time before it some order explains what was told
pub record IsNextHorizon (words : List ℕ) (told : List Operation) (now : ℕ) (r : JudgeValue) (horizon : ℕ) : Type 0 where
  pub later : r.horizon < horizon
  pub past : horizon ≤ now + 1
  pub goes_on : r.is_stopped ≡ false
  pub explained : (time : ℕ) → time + 1 ≡ horizon → LeadsBy time words told
