-- what would explain a granule's operations, had one of them been answered otherwise
use Rattle.std.specs.Prelude.{◌≡◌, ℕ, true, List, ◌∷◌, All, Option, None, Some, IsPermutation, slice_set}
use Rattle.std.specs.List.{filter}
use Rattle.chi_lanes.specs.declared.reply.Reply.{Reply}
use Rattle.chi_search.specs.Frontiers.{FrontierValue, MayBeTold}
use Rattle.chi_trace.specs.AtPlaces.{is_in}
use Rattle.chi_trace.specs.Cuts.{cut}
use Rattle.chi_trace.specs.Explains.{at, is_answered}
use Rattle.chi_trace.specs.Granules.{ExplainsGranule}
use Rattle.chi_trace.specs.declared.operation.Operation.{Operation}
use Rattle.chi_judge.specs.Judges.{GoesNowhere, GoesOn, LiesWithin}

-- the operation, which was answered by this reply, or not at all
abbrev pub answered_by : Operation → Option Reply → Operation
answered_by op reply = record op { reply = reply }

-- the operations, of which the one at a place was answered so
abbrev pub with_reply : List Operation → ℕ → Option Reply → List Operation
with_reply ops i reply = slice_set ops i (answered_by (at ops i) reply)

-- what the search follows, and then these operations, lead to some word by a time, where the one at a place was answered so
abbrev pub LeadsWith : FrontierValue → List Operation → ℕ → ℕ → Option Reply → Type 0
LeadsWith f ops time i reply = GoesOn f (cut time (with_reply ops i reply))

-- they lead to none
abbrev pub LeadsNowhereWith : FrontierValue → List Operation → ℕ → ℕ → Option Reply → Type 0
LeadsNowhereWith f ops time i reply = GoesNowhere f (cut time (with_reply ops i reply))

-- The operation is one of the granule's, of which these are the others. Had it been answered so, some order would explain what had
-- happened in the granule by the time.
pub record IsExplainedWith (trace : List Operation) (g w time : ℕ) (op : Operation) (reply : Option Reply) : Type 0 where
  pub others : List Operation
  pub each : IsPermutation (filter (is_in g) trace) (op ∷ others)
  pub order : List ℕ
  pub explains : ExplainsGranule (cut time (answered_by op reply ∷ others)) g w None order

-- the reply would have been right
abbrev pub IsLegal : List Operation → ℕ → ℕ → ℕ → Operation → Reply → Type 0
IsLegal trace g w time op reply = IsExplainedWith trace g w time op (Some reply)

-- The operation was answered at the time, and without its answer some order would explain what had happened by then: its answer may
-- be the one that is wrong.
pub record IsSuspect (trace : List Operation) (g w time : ℕ) (op : Operation) : Type 0 where
  pub ends : op.end ≡ time
  pub answered : is_answered op ≡ true
  pub without : IsExplainedWith trace g w time op None

-- the one at a place was answered at a time
pub record IsAnsweredAt (ops : List Operation) (time i : ℕ) : Type 0 where
  pub ends : (at ops i).end ≡ time
  pub answered : is_answered (at ops i) ≡ true

-- and without its answer the search leads to some word by then
pub record IsSuspectAt (f : FrontierValue) (ops : List Operation) (time i : ℕ) : Type 0 where
  pub is : IsAnsweredAt ops time i
  pub leads : LeadsWith f ops time i None

-- it may be so, as far as the operations can be searched
pub record MayBeSuspectAt (f : FrontierValue) (ops : List Operation) (time i : ℕ) : Type 0 where
  pub may : MayBeTold f ops
  pub within : All LiesWithin ops
  pub is : IsAnsweredAt ops time i
  pub leads : LeadsNowhereWith f ops time i None → ⊥
