-- the words that the operations of one granule can leave
use Rattle.std.specs.Prelude.{ℕ, ◌<◌, ◌≤◌, ◌⊎◌, List, ◌++◌, All, Option, Some, None, length}
use Rattle.std.specs.List.{Contains}
use Rattle.chi_trace.specs.declared.operation.Operation.{Operation}
use Rattle.chi_trace.specs.Explains.{at}
use Rattle.chi_trace.specs.Segments.{Leads}
use Rattle.chi_search.specs.declared.states.States.{States}
use Rattle.chi_search.specs.Moves.{Ends}
use Rattle.chi_search.specs.Positions.{IsReady, Position}
use Rattle.chi_search.specs.Searchable.{AreSorted}
use Rattle.chi_search.specs.StateSets.{Has}

-- from some state of the set an order goes on to the word
abbrev pub SomeEnds : List Operation → States → ℕ → Type 0
SomeEnds ops states v = (p : Position) × Has states p × Ends ops (Some v) p

-- Operations that come once these are known: all stand in the order of their ends, and each of the later ones starts after a
-- time.
pub record ComeAfter (ops : List Operation) (time : ℕ) (more : List Operation) : Type 0 where
  pub sorted : AreSorted (ops ++ more)
  pub late : All (λ op. time < op.start) more

-- Without a horizon no operation comes later, and else none that starts before it.
abbrev pub CanStart : Option ℕ → Operation → Type 0
CanStart None op = ⊥
CanStart (Some horizon) op = horizon ≤ op.start

-- operations that may come later, once these are known: all stand in the order of their ends
pub record MayFollow (ops : List Operation) (horizon : Option ℕ) (more : List Operation) : Type 0 where
  pub sorted : AreSorted (ops ++ more)
  pub later : All (CanStart horizon) more

-- A search that came to this place waits: none of the operations is left, or an operation that comes later might come next, since
-- the first one that is left does not end before the horizon.
abbrev pub Waits : List Operation → Option ℕ → ℕ → Type 0
Waits ops None first = length ops ≤ first
Waits ops (Some horizon) first = (length ops ≤ first) ⊎ (horizon ≤ (at ops first).end)

-- of each state of the set the first operation is left, if any is
abbrev pub AreReady : List Operation → States → Type 0
AreReady ops states = (p : Position) → Has states p → IsReady (length ops) p

-- from some state of one of the two sets an order goes on to the word
abbrev pub EitherEnds : List Operation → States → States → ℕ → Type 0
EitherEnds ops states waiting v = SomeEnds ops states v ⊎ SomeEnds ops waiting v

-- each state of the set is ready and waits
abbrev pub AreWaiting : List Operation → Option ℕ → States → Type 0
AreWaiting ops horizon states = (p : Position) → Has states p → IsReady (length ops) p × Waits ops horizon p.first

-- from one of the words some order of the operations leads to the word
abbrev pub SomeLeads : List Operation → List ℕ → ℕ → Type 0
SomeLeads ops words v = (w : ℕ) × Contains words w × Leads ops w v
