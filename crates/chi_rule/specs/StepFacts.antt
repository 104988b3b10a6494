-- what a step shows the seat that takes it: of its view before, and of that after
use Rattle.std.specs.Prelude.{◌≡◌, ℕ, ◌<◌, ◌==◌, true, List, [], ◌∷◌, ◌++◌, slice_index, bit_xor, MatchBool}
use Rattle.chi_fields.specs.Extent.{IsRegion, granule_of}
use Rattle.chi_fields.specs.Access.{Access}
use Rattle.chi_lanes.specs.After.{after, answer}
use Rattle.chi_lanes.specs.Memory.{Memory, IsMemory, word}
use Rattle.chi_history.specs.declared.entry.Entry.{Entry}
use Rattle.chi_history.specs.declared.opening.Opening.{Opening}
use Rattle.chi_history.specs.NumberSets.{below}
use Rattle.chi_history.specs.History.{IsFreeOf, IsLegal, end}
use Rattle.chi_history.specs.HomeClauses.{entry}
use Rattle.chi_history.specs.NumberLists.{has}
use Rattle.chi_rule.specs.declared.view.View.{View}
use Rattle.chi_rule.specs.Rule.{first_word, shown}
use Rattle.chi_rule.specs.Views.{IsJoint, knower}

-- the seat has seen these entries more, all of others
pub record Sees (v : View) (mid : List Entry) (w : View) : Type 0 where
  pub now : w ≡ knower v.opening v.held (v.seen ++ mid)
  pub free : IsFreeOf (has v.held) mid
  pub legal : IsLegal v.opening (v.seen ++ mid)

-- the entry of an access, at the end of a history
abbrev pub next_entry : View → List Entry → ℕ → Access → Entry
next_entry v h src access = entry src access (answer access (end v.opening h))

-- the seat has seen these entries more, all of others, and then added its own, of a number that it holds
pub record Adds (v : View) (mid : List Entry) (src : ℕ) (access : Access) (w : View) : Type 0 where
  pub mine : has v.held src ≡ true
  pub region : IsRegion v.opening.region
  pub now : w ≡ knower v.opening v.held ((v.seen ++ mid) ++ next_entry v (v.seen ++ mid) src access ∷ [])
  pub free : IsFreeOf (has v.held) mid
  pub legal : IsLegal v.opening ((v.seen ++ mid) ++ next_entry v (v.seen ++ mid) src access ∷ [])

-- the load of a try at a granule: the seat has seen all, and found the word that it shows
pub record Looks (v : View) (g found : ℕ) (w : View) : Type 0 where
  pub mid : List Entry
  pub sees : Sees v mid w
  pub found_is : found ≡ shown v.opening (v.seen ++ mid) g

-- an exchange of a word that was expected to be `first`: where it was, the seat added its entry, and else it has seen all
pub record Exchanges (v : View) (first src : ℕ) (access : Access) (found : ℕ) (w : View) : Type 0 where
  pub mid : List Entry
  pub found_is : found ≡ shown v.opening (v.seen ++ mid) (granule_of access.addr v.opening.region)
  pub done : MatchBool (found == first) (Adds v mid src access w) (Sees v mid w)

-- the exchange of all words where they were as expected: the seat added its entry
pub record Replaces (v : View) (words : List ℕ) (src : ℕ) (access : Access) (w : View) : Type 0 where
  pub mid : List Entry
  pub words_are : (g : ℕ) → g < v.opening.region.granules → slice_index words g ≡ shown v.opening (v.seen ++ mid) g
  pub adds : Adds v mid src access w

-- an exchange of all words that were expected to be `current`: where they were not, the seat knows no more
abbrev pub Tries : View → List ℕ → ℕ → Access → List ℕ → View → Type 0
Tries v current src access words w = (words ≡ current → Replaces v words src access w) × ((words ≡ current → ⊥) → w ≡ v)

-- a look at the words: a seat that holds all numbers finds those of what it has seen
abbrev pub Reads : View → List ℕ → View → Type 0
Reads v words w = (w ≡ v) × (has v.held ≡ below v.opening.requesters → (g : ℕ) → g < v.opening.region.granules → slice_index words g ≡ shown v.opening v.seen g)

-- a look at one word
abbrev pub ReadsAt : View → ℕ → ℕ → View → Type 0
ReadsAt v g found w = (w ≡ v) × (has v.held ≡ below v.opening.requesters → found ≡ shown v.opening v.seen g)

-- the look after two seats were made one
pub record Settles (v w : View) : Type 0 where
  pub now : w ≡ knower v.opening v.held v.seen
  pub joint : IsJoint v.seen v.joint
  pub legal : IsLegal v.opening v.seen
  pub numbers : (r : ℕ) → has v.held r ≡ true → r < v.opening.requesters

-- `next` is what a store keeps after the access, of every memory whose granule it keeps as `found`
abbrev pub Applies : Opening → Access → ℕ → ℕ → Type 0
Applies o access found next = (m : Memory) → IsRegion o.region → IsMemory m
    → word m o.region (granule_of access.addr o.region) ≡ bit_xor found (first_word o (granule_of access.addr o.region))
    → next ≡ bit_xor (word (after access m) o.region (granule_of access.addr o.region)) (first_word o (granule_of access.addr o.region))
