-- the path of a search from its start, and what is known of the states that it left
use Rattle.std.specs.Prelude.{◌≡◌, ℕ, ◌^◌, ◌<◌, ◌≤◌, List, [], ◌∷◌, All, length, slice_index, Option, Some, None}
use Rattle.chi_trace.specs.declared.operation.Operation.{Operation}
use Rattle.chi_trace.specs.Explains.{at}
use Rattle.chi_search.specs.declared.earliest.EarliestStarts.{EarliestStarts}
use Rattle.chi_search.specs.declared.path.Step.{Step}
use Rattle.chi_search.specs.declared.states.States.{States}
use Rattle.chi_search.specs.Moves.{ByTaking, CanCome, Drops, Ends, Takes}
use Rattle.chi_search.specs.Positions.{IsReady, Position, position_of}
use Rattle.chi_search.specs.StateSets.{Has}

-- each time is no later than the start of the operation at its place, and of each after it
pub record AreLeast (ops : List Operation) (times : List ℕ) : Type 0 where
  pub each : length times ≡ length ops
  pub early : (i j : ℕ) → i ≤ j → j < length ops → slice_index times i ≤ (at ops j).start

-- for each place a later one, where none of the operations between starts before the one at the first
pub record AreLower (ops : List Operation) (places : List ℕ) : Type 0 where
  pub each : length places ≡ length ops
  pub later : (i : ℕ) → i < length ops → i < slice_index places i
  pub within : (i : ℕ) → i < length ops → slice_index places i ≤ length ops
  pub between : (i j : ℕ) → i < length ops → i ≤ j → j < slice_index places i → (at ops i).start ≤ (at ops j).start

-- both are those of the operations
pub record AreEarliest (ops : List Operation) (starts : EarliestStarts) : Type 0 where
  pub times : AreLeast ops starts.times.items
  pub lower : AreLower ops starts.lower.items

-- no order goes on from here
abbrev pub IsDead : List Operation → Option ℕ → Position → Type 0
IsDead ops final_word p = Ends ops final_word p → ⊥

abbrev pub AllDead : List Operation → Option ℕ → States → Type 0
AllDead ops final_word states = (p : Position) → Has states p → IsDead ops final_word p

-- The operations before a place were tried: no order goes on by one of them.
abbrev pub AreTried : List Operation → Option ℕ → Position → ℕ → Type 0
AreTried ops final_word p place = (i : ℕ) → i < place → ByTaking ops final_word p i → ⊥

-- and so were those before the place to which each step of a path had come
abbrev pub AreTriedBefore : List Operation → Option ℕ → List Step → Type 0
AreTriedBefore ops final_word path = All (λ step. AreTried ops final_word (position_of step.from) step.tried) path

-- one move: an operation is taken, or the first one is left out
unfoldable pub Moves : List Operation → Position → Option ℕ → Position → Type 0
Moves ops p (Some i) q = IsReady (length ops) p × CanCome ops p i × Takes ops p i q × (q.word < 2 ^ 64)
Moves ops p None q = IsReady (length ops) p × (p.first < length ops) × Drops ops p q

-- the steps lead from one place to another
unfoldable pub Walks : List Operation → Position → List Step → Position → Type 0
Walks ops p [] q = p ≡ q
Walks ops p (step ∷ path) q = (p ≡ position_of step.from) × ((middle : Position) × Moves ops (position_of step.from) step.op middle × Walks ops middle path q)

-- moves lead to the position from one of the set
pub record IsReached (ops : List Operation) (from : States) (q : Position) : Type 0 where
  pub start : Position
  pub has : Has from start
  pub path : List Step
  pub walks : Walks ops start path q

-- and so they do to each position of another set
abbrev pub AreReached : List Operation → States → States → Type 0
AreReached ops from states = (q : Position) → Has states q → IsReached ops from q

-- and to each of two sets
abbrev pub AreBothReached : List Operation → States → States → States → Type 0
AreBothReached ops from states waiting = AreReached ops from states × AreReached ops from waiting

-- the operations that were taken, in order
abbrev pub after_op : Option ℕ → List ℕ → List ℕ
after_op None order = order
after_op (Some i) order = i ∷ order

unfoldable pub taken : List Step → List ℕ
taken [] = []
taken (step ∷ path) = after_op step.op (taken path)
