-- what the seats of a store know
use Rattle.std.specs.Prelude.{ℕ, zero, suc, ◌==◌, nat_le, true, false, if◌then◌else◌, List, [], ◌∷◌, ◌++◌, length, Option, None, Some}
use Rattle.chi_history.specs.declared.entry.Entry.{Entry}
use Rattle.chi_history.specs.declared.opening.Opening.{Opening}
use Rattle.chi_history.specs.NumberLists.{has}
use Rattle.chi_history.specs.NumberSets.{Apart}
use Rattle.chi_history.specs.HomeClauses.{Joins}
use Rattle.chi_rule.specs.declared.view.Half.{Half}
use Rattle.chi_rule.specs.declared.view.View.{View}

-- every number below this one
unfoldable pub all_below : ℕ → List ℕ
all_below zero = []
all_below (suc n) = n ∷ all_below n

-- the numbers of a list but one
unfoldable pub all_but : ℕ → List ℕ → List ℕ
all_but src [] = []
all_but src (x ∷ xs) = if x == src then all_but src xs else x ∷ all_but src xs

-- the longer of two histories
unfoldable pub longest_of : List Entry → List Entry → List Entry
longest_of xs ys = if nat_le (length ys) (length xs) then xs else ys

-- a seat of an opening, with these numbers, that has seen this history
abbrev pub knower : Opening → List ℕ → List Entry → View
knower o held seen = record { fresh = false; live = true; opening = o; held = held; seen = seen; joint = None }

-- no opening's values
abbrev pub no_opening : Opening
no_opening = record { region = record { base = 0; granules = 0 }; requesters = 0; image = [] }

-- the view that a store begins with before its opening is set
abbrev pub newcomer : View
newcomer = record { fresh = true; live = false; opening = no_opening; held = []; seen = []; joint = None }

-- the view of a seat that was joined away
abbrev pub gone : View
gone = record { fresh = false; live = false; opening = no_opening; held = []; seen = []; joint = None }

-- the seat without one of its numbers
abbrev pub rest_of : ℕ → View → View
rest_of src v = knower v.opening (all_but src v.held) v.seen

-- a seat of that number alone
abbrev pub alone : ℕ → View → View
alone src v = knower v.opening (src ∷ []) v.seen

-- what a seat knows that is made one with another
abbrev pub half : View → Half
half v = record { held = v.held; seen = v.seen }

-- two seats made one, which keeps what both knew
abbrev pub both : View → View → View
both v w = record {
  fresh = false;
  live = true;
  opening = v.opening;
  held = v.held ++ w.held;
  seen = longest_of v.seen w.seen;
  joint = Some (half v, half w);
}

-- what is known of two seats that were made one
abbrev pub IsJoint : List Entry → Option (Half × Half) → Type 0
IsJoint seen None = Unit {0}
IsJoint seen (Some p) = Apart (has p.0.held) (has p.1.held) × Joins (has p.0.held) p.0.seen (has p.1.held) p.1.seen seen
