-- what each step of a seat does to the history
use Rattle.std.specs.Prelude.{◌≡◌, ℕ, ◌<◌, ◌==◌, true, MatchBool, List, [], ◌∷◌, ◌++◌, slice_index, slice_set}
use mathlib.Core.Option as plain
use lib.ListN.{get_elem?}
use Rattle.chi_fields.specs.Extent.{granule_of, lies_in}
use Rattle.chi_fields.specs.Access.{IsLawful, Access}
use Rattle.chi_lanes.specs.After.{answer}
use Rattle.chi_history.specs.declared.entry.Entry.{Entry}
use Rattle.chi_history.specs.declared.opening.Opening.{Opening}
use Rattle.chi_history.specs.History.{end}
use Rattle.chi_history.specs.HomeClauses.{entry}
use Rattle.chi_history.specs.NumberLists.{has}
use Rattle.chi_rule.specs.declared.view.View.{View}
use Rattle.chi_rule.specs.Rule.{RuleStands}
use Rattle.chi_rule.specs.StepFacts.{Applies, Exchanges, Looks, Tries}
use Rattle.chi_rule.specs.Views.{both, gone, knower}

-- the rule stands at one history alone, whatever the words are
abbrev pub IsOneHistory : Type 0
IsOneHistory = (count : ℕ) (o : Opening) (h h' : List Entry) (words words' : List ℕ) (views : List View) → RuleStands count o h words views
    → RuleStands count o h' words' views → h ≡ h'

-- the rule stands at this history, and this is what one of its seats knows
pub record IsAt (count : ℕ) (o : Opening) (h : List Entry) (words : List ℕ) (views : List View) (id : ℕ) (v : View) : Type 0 where
  pub stands : RuleStands count o h words views
  pub at : get_elem? views id ≡ plain.some v

-- the history with the entry of an access more
abbrev pub with_entry : Opening → List Entry → ℕ → Access → List Entry
with_entry o h src access = h ++ entry src access (answer access (end o h)) ∷ []

-- An exchange of one word, whatever view it leaves and at whatever history the rule then stands: where the word
-- was the one that was expected, the seat holds the number, this history is the old one with one entry of the
-- number more, and the seat has seen all of it; else it is the old one.
abbrev pub ExchangeAdds : Type 0
ExchangeAdds = (count : ℕ) (o : Opening) (id : ℕ) (v : View) → v ≡ knower o v.held v.seen
    → (first found src : ℕ) (access : Access)
    → (h h' : List Entry) (words words' : List ℕ) (views : List View) → IsAt count o h words views id v
    → (w : View) → Exchanges v first src access found w → RuleStands count o h' words' (slice_set views id w)
    → MatchBool (found == first) ((has v.held src ≡ true) × (h' ≡ with_entry o h src access) × (w.seen ≡ h')) (h' ≡ h)

-- the same of an exchange of all words
abbrev pub ReplaceAdds : Type 0
ReplaceAdds = (count : ℕ) (o : Opening) (id : ℕ) (v : View) → v ≡ knower o v.held v.seen
    → (current found : List ℕ) (src : ℕ) (access : Access)
    → (h h' : List Entry) (words words' : List ℕ) (views : List View) → IsAt count o h words views id v
    → (w : View) → Tries v current src access found w → RuleStands count o h' words' (slice_set views id w)
    → (found ≡ current → (has v.held src ≡ true) × (h' ≡ with_entry o h src access) × (w.seen ≡ h')) × ((found ≡ current → ⊥) → h' ≡ h)

-- The load of a try leaves the history, whatever view it leaves.
abbrev pub LookLeaves : Type 0
LookLeaves = (count : ℕ) (o : Opening) (id : ℕ) (v : View) → v ≡ knower o v.held v.seen → (g found : ℕ)
    → (h h' : List Entry) (words words' : List ℕ) (views : List View) → IsAt count o h words views id v
    → (w : View) → Looks v g found w → RuleStands count o h' words' (slice_set views id w) → h' ≡ h

-- A step after which the seat has seen what it had seen leaves the history: the loads of a snapshot, and that
-- after a join.
abbrev pub ReadLeaves : Type 0
ReadLeaves = (count : ℕ) (o : Opening) (id : ℕ) (v w : View) (h h' : List Entry) (words words' : List ℕ) (views : List View) → IsAt count o h words views id v
    → w.seen ≡ v.seen → RuleStands count o h' words' (slice_set views id w) → h' ≡ h

-- A split leaves the history.
abbrev pub SplitLeaves : Type 0
SplitLeaves = (count : ℕ) (o : Opening) (id : ℕ) (v w u : View) (h h' : List Entry) (words words' : List ℕ) (views : List View) → IsAt count o h words views id v
    → w.seen ≡ v.seen → u.seen ≡ v.seen → RuleStands count o h' words' (slice_set views id w ++ u ∷ []) → h' ≡ h

-- A view that goes whole to a new seat leaves the history.
abbrev pub MoveLeaves : Type 0
MoveLeaves = (count : ℕ) (o : Opening) (id : ℕ) (v : View) (h h' : List Entry) (words words' : List ℕ) (views : List View) → IsAt count o h words views id v
    → RuleStands count o h' words' (slice_set views id gone ++ v ∷ []) → h' ≡ h

-- A join leaves the history.
abbrev pub JoinLeaves : Type 0
JoinLeaves = (count : ℕ) (o : Opening) (id : ℕ) (v : View) (other : ℕ) (w : View) (h h' : List Entry) (words words' : List ℕ) (views : List View)
    → IsAt count o h words views id v → ¬ (other ≡ id) → get_elem? (slice_set views id (both v w)) other ≡ plain.some w
    → RuleStands count o h' words' (slice_set (slice_set views id (both v w)) other gone) → h' ≡ h

-- An exchange of one word is possible: it may leave a view that has seen all, and the rule stands after it.
abbrev pub ExchangeIsPossible : Type 0
ExchangeIsPossible = (count : ℕ) (o : Opening) (id : ℕ) (v : View) → v ≡ knower o v.held v.seen → (first next src : ℕ) (access : Access)
    → has v.held src ≡ true → IsLawful access → lies_in access.addr access.len o.region ≡ true → Applies o access first next
    → (h : List Entry) (words : List ℕ) (views : List View) → IsAt count o h words views id v
    → (w : View) × Exchanges v first src access (slice_index words (granule_of access.addr o.region)) w
    × MatchBool (slice_index words (granule_of access.addr o.region) == first)
    (RuleStands count o (with_entry o h src access) (slice_set words (granule_of access.addr o.region) next) (slice_set views id w)
    × (w.seen ≡ with_entry o h src access))
    (RuleStands count o h words (slice_set views id w) × (w.seen ≡ h))

-- So is an exchange of all words that are as they were expected, for those that the access leaves.
abbrev pub ReplaceIsPossible : Type 0
ReplaceIsPossible = (count : ℕ) (o : Opening) (id : ℕ) (v : View) → v ≡ knower o v.held v.seen → (next src : ℕ) (access : Access)
    → has v.held src ≡ true → IsLawful access → lies_in access.addr access.len o.region ≡ true
    → (h : List Entry) (words : List ℕ) (views : List View) → IsAt count o h words views id v
    → Applies o access (slice_index words (granule_of access.addr o.region)) next
    → (w : View) × Tries v words src access words w
    × RuleStands count o (with_entry o h src access) (slice_set words (granule_of access.addr o.region) next) (slice_set views id w)
    × (w.seen ≡ with_entry o h src access)

-- So is the load of a try.
abbrev pub LookIsPossible : Type 0
LookIsPossible = (count : ℕ) (o : Opening) (id : ℕ) (v : View) → v ≡ knower o v.held v.seen → (g : ℕ) → g < o.region.granules
    → (h : List Entry) (words : List ℕ) (views : List View) → IsAt count o h words views id v
    → (w : View) × Looks v g (slice_index words g) w × RuleStands count o h words (slice_set views id w) × (w.seen ≡ h)
