-- the rule of a store: of its words, and of what its seats know
use Rattle.std.specs.Prelude.{◌≡◌, ◌≢◌, ℕ, ◌<◌, ◌≤◌, true, false, List, [], ◌∷◌, ◌++◌, length, replicate, slice_index, bit_xor, ◌⊎◌}
use mathlib.Core.Option as plain
use lib.ListN.{get_elem?}
use Rattle.chi_fields.specs.Extent.{IsRegion}
use Rattle.chi_lanes.specs.Memory.{word}
use Rattle.chi_history.specs.declared.entry.Entry.{Entry}
use Rattle.chi_history.specs.declared.opening.Opening.{Opening}
use Rattle.chi_history.specs.NumberSets.{Apart}
use Rattle.chi_history.specs.History.{IsFreeOf, IsLegal, end, opening_memory}
use Rattle.chi_history.specs.NumberLists.{has}
use Rattle.chi_rule.specs.declared.view.View.{View}
use Rattle.chi_rule.specs.Views.{IsJoint, newcomer}

-- the word of a granule at the opening
abbrev pub first_word : Opening → ℕ → ℕ
first_word o g = word (opening_memory o) o.region g

-- what a store keeps of a granule: its word exclusive-or that at the opening
abbrev pub shown : Opening → List Entry → ℕ → ℕ
shown o h g = bit_xor (word (end o h) o.region g) (first_word o g)

-- what the seat has seen is a prefix of the history, and what follows it is of others
abbrev pub Precedes : View → List Entry → Type 0
Precedes v h = (rest : List Entry) × (h ≡ v.seen ++ rest) × IsFreeOf (has v.held) rest

-- what is true of each view
pub record Knows (o : Opening) (h : List Entry) (v : View) : Type 0 where
  pub settled : v.fresh ≡ false
  pub opened : v.live ≡ true → v.opening ≡ o
  pub spent : v.live ≡ false → (v.held ≡ []) × (v.seen ≡ [])
  pub numbers : (r : ℕ) → has v.held r ≡ true → r < o.requesters
  pub precedes : Precedes v h
  pub joint : IsJoint v.seen v.joint

-- of all views
abbrev pub EachKnows : Opening → List Entry → List View → Type 0
EachKnows o h views = (i : ℕ) (v : View) → get_elem? views i ≡ plain.some v → Knows o h v

-- no number is held by two seats
abbrev pub AreApart : List View → Type 0
AreApart views = (i j : ℕ) (v w : View) → i ≢ j → get_elem? views i ≡ plain.some v → get_elem? views j ≡ plain.some w → Apart (has v.held) (has w.held)

-- some seat has seen all of the history
abbrev pub IsSeen : List Entry → List View → Type 0
IsSeen h views = (i : ℕ) × (v : View) × (get_elem? views i ≡ plain.some v) × (v.seen ≡ h)

-- some seat holds the number
abbrev pub IsHeld : ℕ → List View → Type 0
IsHeld r views = (i : ℕ) × (v : View) × (get_elem? views i ≡ plain.some v) × (has v.held r ≡ true)

-- each number below this one is held by some seat
abbrev pub AreHeld : ℕ → List View → Type 0
AreHeld n views = (r : ℕ) → r < n → IsHeld r views

-- the rule at a history: count words show its end, it is the longest that a seat has seen, and each requester's
-- number is held
pub record RuleStands (count : ℕ) (o : Opening) (h : List Entry) (words : List ℕ) (views : List View) : Type 0 where
  pub region : IsRegion o.region
  pub room : o.region.granules ≤ count
  pub legal : IsLegal o h
  pub counted : length words ≡ count
  pub written : (g : ℕ) → g < o.region.granules → slice_index words g ≡ shown o h g
  pub zeros : (g : ℕ) → o.region.granules ≤ g → slice_index words g ≡ 0
  pub each : EachKnows o h views
  pub apart : AreApart views
  pub longest : IsSeen h views
  pub covered : AreHeld o.requesters views

-- the rule of a store whose opening is known
abbrev pub Kept : ℕ → Opening → List ℕ → List View → Type 0
Kept count o words views = (h : List Entry) × RuleStands count o h words views

-- the rule of a store whose first view is a constant: until the opening is set, this is the only view, and all words are 0
abbrev pub Ruled : ℕ → List ℕ → List View → Type 0
Ruled count words views = ((views ≡ newcomer ∷ []) × (words ≡ replicate count 0)) ⊎ ((o : Opening) × Kept count o words views)
