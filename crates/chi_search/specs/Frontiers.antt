-- a search of one granule while its operations are told
use Rattle.std.specs.Prelude.{◌≡◌, ℕ, ◌≤◌, List, [], ◌∷◌, ◌++◌, All, Some, None, length, map, ◌↔◌}
use Rattle.std.specs.List.{Contains}
use Rattle.chi_trace.specs.declared.operation.Operation.{Operation}
use Rattle.chi_trace.specs.Explains.{at, is_place}
use Rattle.chi_trace.specs.Granules.{Finishes, Play, last_word}
use Rattle.chi_search.specs.Layers.{SomeLeads}
use Rattle.chi_search.specs.Moves.{Ends}
use Rattle.chi_search.specs.Positions.{IsReady, Position, is_left, start}
use Rattle.chi_search.specs.Searchable.{AreSorted, AreWithin}

-- The positions to which the search came, and the operations that one of them at least has not passed. No operation that is
-- told next starts before the horizon, or ends before the latest end.
pub record FrontierValue : Type 0 where
  pub positions : List Position
  pub operations : List Operation
  pub horizon : ℕ
  pub latest : ℕ

-- the search that is at one word, with no operation left
abbrev pub only_at : ℕ → ℕ → ℕ → FrontierValue
only_at word horizon latest = record { positions = start word ∷ []; operations = []; horizon = horizon; latest = latest }

-- what is always true of it
pub record IsFrontier (f : FrontierValue) : Type 0 where
  pub sorted : AreSorted f.operations
  pub within : AreWithin f.operations
  pub ended : All (λ op. op.end ≤ f.latest) f.operations
  pub ready : (p : Position) → Contains f.positions p → IsReady (length f.operations) p

-- the operation may be told next
pub record CanBeTold (f : FrontierValue) (op : Operation) : Type 0 where
  pub lasting : op.start ≤ op.end
  pub starts : f.horizon ≤ op.start
  pub ends : f.latest ≤ op.end

-- the operations may be told next, one after the other
pub record MayBeTold (f : FrontierValue) (more : List Operation) : Type 0 where
  pub sorted : AreSorted more
  pub each : All (CanBeTold f) more

-- by the operations that it knows and these the search goes on to the word
abbrev pub GoesOn : FrontierValue → List Operation → ℕ → Type 0
GoesOn f more v = (p : Position) × Contains f.positions p × Ends (f.operations ++ more) (Some v) p

-- from one of the positions the operations at these places fit, one after the other, and leave the word
abbrev pub LeavesAlong : FrontierValue → List ℕ → ℕ → Type 0
LeavesAlong f order v = (p : Position) × Contains f.positions p × Play f.operations p.word order × (last_word f.operations p.word order ≡ v)

-- an order of all these operations, from one of the words on, whose last operations are those
pub record EndsWith (told : List Operation) (words : List ℕ) (ops : List Operation) : Type 0 where
  pub from : ℕ
  pub is_there : Contains words from
  pub whole : List ℕ
  pub finishes : Finishes told (is_place told) from None whole
  pub earlier : List Operation
  pub parts : map (at told) whole ≡ earlier ++ ops

-- each order that finishes the operations from one of the positions is how an order of all these ends
abbrev pub AreEnds : List Operation → List ℕ → List Position → List Operation → Type 0
AreEnds told words positions ops =
    (p : Position) → Contains positions p → (order : List ℕ) → Finishes ops (is_left (length ops) p) p.word None order → EndsWith told words (map (at ops) order)

-- The search follows the operations that were told, from some words on: with whatever may be told next they lead to just the
-- words to which it goes on, and each order by which it goes on is how an order of all of them ends.
pub record Follows (words : List ℕ) (told : List Operation) (f : FrontierValue) : Type 0 where
  pub leads : (more : List Operation) → MayBeTold f more → (v : ℕ) → SomeLeads (told ++ more) words v ↔ GoesOn f more v
  pub orders : (more : List Operation) → MayBeTold f more → AreEnds (told ++ more) words f.positions (f.operations ++ more)

-- The search goes along the operations that were told: with whatever may be told next they lead to each word to which it goes on.
abbrev pub GoesAlong : List ℕ → List Operation → FrontierValue → Type 0
GoesAlong words told f = (more : List Operation) → MayBeTold f more → (v : ℕ) → GoesOn f more v → SomeLeads (told ++ more) words v

-- The second search goes on to just the words to which the position leads by the operations of the first one, whatever is told
-- later.
abbrev pub GoesOnFrom : FrontierValue → FrontierValue → Position → Type 0
GoesOnFrom f next q = (more : List Operation) (v : ℕ) → GoesOn next more v ↔ Ends (f.operations ++ more) (Some v) q
