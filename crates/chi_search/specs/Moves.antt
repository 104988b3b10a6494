-- the moves of a search: the next operation is taken, or the first is left out, since it may have had no effect
use Rattle.std.specs.Prelude.{◌≡◌, ℕ, ◌^◌, ◌<◌, ◌≤◌, true, List, [], ◌∷◌, length, Option, None}
use Rattle.chi_trace.specs.declared.operation.Operation.{Operation}
use Rattle.chi_trace.specs.Explains.{at}
use Rattle.chi_trace.specs.Granules.{Finishes, Fits, next}
use Rattle.chi_search.specs.Positions.{IsReady, Position, Settles, is_left}

-- some order finishes what is left
abbrev pub Ends : List Operation → Option ℕ → Position → Type 0
Ends ops final_word p = (order : List ℕ) × Finishes ops (is_left (length ops) p) p.word final_word order

-- The operation can come next: it is left, and starts no later than the first one ends, which is the first of all that are
-- left to end.
abbrev pub CanCome : List Operation → Position → ℕ → Type 0
CanCome ops p i = (is_left (length ops) p i ≡ true) × ((at ops i).start ≤ (at ops p.first).end)

-- the operation is taken
pub record Takes (ops : List Operation) (p : Position) (i : ℕ) (q : Position) : Type 0 where
  pub fits : Fits (at ops i) p.word
  pub word : q.word ≡ next (at ops i) p.word
  pub left : Settles p i q

-- the first operation is left out
pub record Drops (ops : List Operation) (p q : Position) : Type 0 where
  pub unanswered : (at ops p.first).reply ≡ None
  pub word : q.word ≡ p.word
  pub left : Settles p p.first q

-- some order goes on by the operation
abbrev pub ByTaking : List Operation → Option ℕ → Position → ℕ → Type 0
ByTaking ops final_word p i =
    CanCome ops p i × Fits (at ops i) p.word × (next (at ops i) p.word < 2 ^ 64) × ((q : Position) → Takes ops p i q → Ends ops final_word q)

-- the operation leaves each word that it fits as it is
abbrev pub IsIdle : Operation → Type 0
IsIdle op = (w : ℕ) → w < 2 ^ 64 → Fits op w → next op w ≡ w

-- the operations come next in turn, and lead from the one position to the other
unfoldable pub Comes : List Operation → Position → List ℕ → Position → Type 0
Comes ops p [] q = q ≡ p
Comes ops p (i ∷ order) q = (r : Position) × IsReady (length ops) r × CanCome ops p i × Takes ops p i r × Comes ops r order q
