-- what a store shows of each step of a seat
use Rattle.std.specs.Prelude.{◌≡◌, ℕ, List, [], ◌∷◌, ◌++◌, slice_set}
use mathlib.Core.Option as plain
use lib.ListN.{get_elem?}
use Rattle.chi_history.specs.declared.opening.Opening.{Opening}
use Rattle.chi_rule.specs.declared.view.View.{View}
use Rattle.chi_rule.specs.Rule.{Kept}

-- whatever the words and the other views are when the words ws become f ws, the seat has a new view that keeps the rule, and `then` holds of ws and this view
abbrev pub Steps : ℕ → Opening → ℕ → View → (List ℕ → List ℕ) → (List ℕ → View → Type 0) → Type 0
Steps count o id v f then = (words : List ℕ) (views : List View) → Kept count o words views → get_elem? views id ≡ plain.some v
    → (w : View) × Kept count o (f words) (slice_set views id w) × then words w

-- the view is cut in two, and a new seat has the second
abbrev pub Parts : ℕ → Opening → ℕ → View → View → View → Type 0
Parts count o id v left right = (words : List ℕ) (views : List View) → Kept count o words views → get_elem? views id ≡ plain.some v
    → Kept count o words (slice_set views id left ++ right ∷ [])

-- the seat takes in the view w of another, which is spent
abbrev pub Unites : ℕ → Opening → ℕ → View → ℕ → View → View → View → Type 0
Unites count o id v other w both spent = (words : List ℕ) (views : List View) → Kept count o words views → get_elem? views id ≡ plain.some v
    → ¬ (other ≡ id) → get_elem? (slice_set views id both) other ≡ plain.some w → Kept count o words (slice_set (slice_set views id both) other spent)
