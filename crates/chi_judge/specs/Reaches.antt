-- how far a granule's operations can be explained
use Rattle.std.specs.Prelude.{◌≡◌, ℕ, ◌+◌, ◌≤◌, ◌⊎◌, ◌++◌, nat_le, Bool, true, ◌&&◌, List, [], ◌∷◌, All, length, None, Some, ◌↔◌, IfSome, IsPermutation, slice_get}
use Rattle.std.specs.List.{Contains, filter}
use Rattle.chi_trace.specs.AtPlaces.{at_places, is_in}
use Rattle.chi_trace.specs.Cuts.{cut}
use Rattle.chi_trace.specs.Explains.{IsTrace, is_answered}
use Rattle.chi_trace.specs.Granules.{ExplainsGranule}
use Rattle.chi_trace.specs.declared.operation.Operation.{Operation}
use Rattle.chi_judge.specs.declared.reach.Reach.{Reach}
use Rattle.chi_judge.specs.declared.reach.Reach.TheVariants.{Whole, Stops, Undecided}
use Rattle.chi_judge.specs.declared.reach.Stop.{Stop}
use Rattle.chi_search.specs.declared.words.Words.{Words}
use Rattle.chi_search.specs.Found.{IfUnknown, IfWords}
use Rattle.chi_search.specs.Looks.{LookedAtLeast, Search}
use Rattle.chi_judge.specs.Legal.{IsLegal, IsSuspect}
use Rattle.chi_judge.specs.Judges.{Keeps, JudgeValue}
use Rattle.chi_judge.specs.Shown.{AreBefore, IsOfFirstRequest}

-- the operations of the granule in this trace were told, in some order, and it keeps the last of them
pub record IsJudgeOf (trace : List Operation) (g w : ℕ) (r : JudgeValue) : Type 0 where
  pub traced : IsTrace trace
  pub told : List Operation
  pub now : ℕ
  pub moved : IsPermutation (filter (is_in g) trace) told
  pub keeps : Keeps (w ∷ []) told now r

-- some order explains the granule's operations and leaves this word
abbrev pub CanLeave : List Operation → ℕ → ℕ → ℕ → Type 0
CanLeave trace g w v = (order : List ℕ) × ExplainsGranule trace g w (Some v) order

-- it is an operation of the granule that had started by a time, and had not ended before
abbrev pub is_open_at : ℕ → ℕ → Operation → Bool
is_open_at g time op = is_in g op && (nat_le op.start time && nat_le time op.end)

-- some order explains the granule's operations up to the time
abbrev pub IsExplained : ℕ → List Operation → ℕ → ℕ → Type 0
IsExplained time trace g w = (order : List ℕ) × ExplainsGranule (cut time trace) g w None order

-- these are the last operations of an order that explains the granule's operations
pub record EndAnOrder (trace : List Operation) (g w : ℕ) (ops : List Operation) : Type 0 where
  pub order : List ℕ
  pub explains : ExplainsGranule trace g w None order
  pub earlier : List Operation
  pub parts : at_places trace order ≡ earlier ++ ops

-- Up to this time no order explains the granule's operations. Up to the time before, where there is one, some order does, and
-- these are the words that they can leave, where they are known; before time 0 none are. The operation was answered then, and is
-- one of those that were open. It is the first of those whose answer may be wrong, and where there is none no other that was
-- answered then has an earlier request. The last so many of the others that had ended by then stand before it, and each of these
-- replies of it would have been right. An order that explains what had happened up to the time before ends with the operations
-- of `order`.
pub record IsStop (trace : List Operation) (g w most : ℕ) (s : Stop) : Type 0 where
  pub after : IsExplained s.time trace g w → ⊥
  pub before_it : (time : ℕ) → time + 1 ≡ s.time → IsExplained time trace g w
  pub words : (time : ℕ) → time + 1 ≡ s.time → IfWords s.words (λ words. (v : ℕ) → Contains words v ↔ CanLeave (cut time trace) g w v)
  pub no_words : s.time ≡ 0 → IfWords s.words (λ words. ⊥)
  pub is_there : Contains s.overlapping.items s.op
  pub ends : s.op.end ≡ s.time
  pub answered : is_answered s.op ≡ true
  pub suspects : All (IsSuspect trace g w s.time) s.suspects.items
  pub first : IfSome (slice_get s.suspects.items 0) (λ op. s.op ≡ op)
  pub request : s.suspects.items ≡ [] → IsOfFirstRequest s.overlapping.items s.time s.op.number
  pub overlapping : IsPermutation (filter (is_open_at g s.time) trace) s.overlapping.items
  pub before : AreBefore trace g s.time s.op most s.before.items
  pub order : (time : ℕ) → time + 1 ≡ s.time → EndAnOrder (cut time trace) g w s.order.items
  pub order_within : length s.order.items ≤ most
  pub legal : All (IsLegal trace g w s.time s.op) s.legal.items

-- What is not said was not found within the budget: each whose answer may be wrong is among the suspects, or as many states were
-- looked at; and so it is where the words are not known and the time is not 0.
pub record MissesNone {P : Type 0} (looked : Search → P → ℕ → Type 0) (old new : P) (budget : ℕ) (trace : List Operation) (g w : ℕ) (s : Stop) : Type 0 where
  pub suspects : (op : Operation) → IsSuspect trace g w s.time op → Contains s.suspects.items op ⊎ LookedAtLeast looked old new budget
  pub words : IfUnknown s.words ((s.time ≡ 0) ⊎ LookedAtLeast looked old new budget)

-- all of them can leave some word, and these are the words that they can leave, where they are known
pub record AreLast (trace : List Operation) (g w : ℕ) (words : Words) : Type 0 where
  pub some : (v : ℕ) × CanLeave trace g w v
  pub each : IfWords words (λ words. (v : ℕ) → Contains words v ↔ CanLeave trace g w v)

abbrev pub IfWhole : Reach → (Words → Type 0) → Type 0
IfWhole (Whole words) P = P words
IfWhole (Stops stop) P = Unit {0}
IfWhole Undecided P = Unit {0}

abbrev pub IfStops : Reach → (Stop → Type 0) → Type 0
IfStops (Whole words) P = Unit {0}
IfStops (Stops stop) P = P stop
IfStops Undecided P = Unit {0}

abbrev pub IfUndecided : Reach → Type 0 → Type 0
IfUndecided (Whole words) A = Unit {0}
IfUndecided (Stops stop) A = Unit {0}
IfUndecided Undecided A = A
