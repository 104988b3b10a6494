-- walks of a search, and what is known of a position from which operations were tried
use Rattle.std.proofs.Common.{◌≡◌, ℕ, ◌+◌, ◌^◌, ◌<◌, ◌≤◌, List, [], ◌∷◌, ◌++◌, length, get_or, Option, None, Some, refl, sym, subst, ◌∙◌, arith, inl, inr, below_more}
use Rattle.std.proofs.lemmas.Bool.{cases_lt}
use Rattle.std.proofs.lemmas.List.{get_or_read}
use Rattle.std.proofs.lemmas.List.Elements.{All-pop, All-push}
use Rattle.chi_trace.specs.declared.operation.Operation.{Operation}
use Rattle.chi_trace.specs.Explains.{at, nothing}
use Rattle.chi_trace.specs.Granules.{Finishes, Fits}
use Rattle.chi_search.specs.declared.path.Step.{Step}
use Rattle.chi_search.specs.declared.states.States.{States}
use Rattle.chi_search.specs.Commuting.{GoesFirst}
use Rattle.chi_search.specs.Equal.{HasEqualBefore}
use Rattle.chi_search.specs.Moves.{ByTaking, CanCome, IsIdle, Takes}
use Rattle.chi_search.specs.Paths.{AllDead, AreTried, AreTriedBefore, IsDead, Moves, Walks, after_op, taken}
use Rattle.chi_search.specs.Positions.{IsReady, Position, is_left, position_of}
use Rattle.chi_search.specs.Searchable.{AreSorted}
use Rattle.chi_search.specs.StateSets.{Has}
use Rattle.chi_search.proofs.ByEqual.{by_equal}
use Rattle.chi_search.proofs.Moves.{ByDropping, from_dropped, from_idle, from_taken, goes_on}
use Rattle.chi_search.proofs.Settling.{left_is}

-- one step more, and one less
pub walks_on : (ops : List Operation) (p q : Position) (path : List Step) (step : Step) → Walks ops p path (position_of step.from)
    → Moves ops (position_of step.from) step.op q → Walks ops p (path ++ step ∷ []) q
unfolding Walks
walks_on ops p q [] step h moves = (h, (q, moves, refl))
walks_on ops p q (s ∷ path) step h moves = (h.0, (h.1.0, h.1.1, walks_on ops h.1.0 q path step h.1.2 moves))

pub walks_back : (ops : List Operation) (p q : Position) (path : List Step) (step : Step) → Walks ops p (path ++ step ∷ []) q
    → Walks ops p path (position_of step.from) × Moves ops (position_of step.from) step.op q
unfolding Walks
walks_back ops p q [] step h = (h.0, subst (Moves ops (position_of step.from) step.op) h.1.2 h.1.1)
walks_back ops p q (s ∷ path) step h =
    let rest = walks_back ops h.1.0 q path step h.1.2 in ((h.0, (h.1.0, h.1.1, rest.0)), rest.1)

-- a move is made from a position that is ready
pub moves_ready : (ops : List Operation) (p q : Position) (op : Option ℕ) → Moves ops p op q → IsReady (length ops) p
unfolding Moves
moves_ready ops p q None moves = moves.0
moves_ready ops p q (Some i) moves = moves.0

-- an order that goes on from where a walk leads goes on from its start, after the operations that were taken
move_end : (ops : List Operation) (final_word : Option ℕ) (p q : Position) (op : Option ℕ) (x : List ℕ) → AreSorted ops → Moves ops p op q
    → Finishes ops (is_left (length ops) q) q.word final_word x → Finishes ops (is_left (length ops) p) p.word final_word (after_op op x)
unfolding Moves
move_end ops final_word p q None x sorted moves c = from_dropped ops final_word p q x moves.0 moves.1 moves.2 c
move_end ops final_word p q (Some i) x sorted moves c = from_taken ops final_word p q i x sorted moves.1 moves.2 moves.3 c

after_append : (op : Option ℕ) (x y : List ℕ) → after_op op (x ++ y) ≡ after_op op x ++ y
after_append None x y = refl
after_append (Some i) x y = refl

pub walks_end : (ops : List Operation) (final_word : Option ℕ) (p q : Position) (path : List Step) (x : List ℕ) → AreSorted ops → Walks ops p path q
    → Finishes ops (is_left (length ops) q) q.word final_word x → Finishes ops (is_left (length ops) p) p.word final_word (taken path ++ x)
unfolding Walks taken
walks_end ops final_word p q [] x sorted h c = subst (λ (r : Position). Finishes ops (is_left (length ops) r) r.word final_word x) (sym h) c
walks_end ops final_word p q (step ∷ path) x sorted h c =
    subst (λ (r : Position). Finishes ops (is_left (length ops) r) r.word final_word (after_op step.op (taken path) ++ x)) (sym h.0)
    (subst (Finishes ops (is_left (length ops) (position_of step.from)) (position_of step.from).word final_word) (after_append step.op (taken path) x)
    (move_end ops final_word (position_of step.from) h.1.0 step.op (taken path ++ x) sorted h.1.1 (walks_end ops final_word h.1.0 q path x sorted h.1.2 c)))

-- Where the states of a set are dead, no order goes on by an operation before a place.
abbrev pub Tried : List Operation → Option ℕ → States → Position → ℕ → Type 0
Tried ops final_word dead p k = AllDead ops final_word dead → AreTried ops final_word p k

pub none_tried : (ops : List Operation) (final_word : Option ℕ) (p : Position) → AreTried ops final_word p p.first
none_tried ops final_word p i before taking = let is = left_is (length ops) p i taken.0 in absurd (omega (arith, is.1))
  where
    taken : CanCome ops p i
    taken = taking.0

-- one step more, and one less
pub tried_on : (ops : List Operation) (final_word : Option ℕ) (path : List Step) (step : Step) → AreTriedBefore ops final_word path
    → AreTried ops final_word (position_of step.from) step.tried → AreTriedBefore ops final_word (path ++ step ∷ [])
tried_on ops final_word path step before tried = All-push (λ s. AreTried ops final_word (position_of s.from) s.tried) path step before tried

pub tried_back : (ops : List Operation) (final_word : Option ℕ) (path : List Step) (step : Step) → AreTriedBefore ops final_word (path ++ step ∷ [])
    → AreTriedBefore ops final_word path × AreTried ops final_word (position_of step.from) step.tried
tried_back ops final_word path step before = All-pop (λ s. AreTried ops final_word (position_of s.from) s.tried) (path ++ step ∷ []) path (Some step) refl before

-- an operation that fits nothing
pub refused_more : (ops : List Operation) (final_word : Option ℕ) (dead : States) (p : Position) (k : ℕ) → Tried ops final_word dead p k
    → (CanCome ops p k → Fits (at ops k) p.word → ⊥) → Tried ops final_word dead p (k + 1)
refused_more ops final_word dead p k tried refused all = below_more (λ i. ByTaking ops final_word p i → ⊥) k (tried all) (λ taking. refused taking.0 taking.1)

-- and one that leads to a state of the set
pub dead_more : (ops : List Operation) (final_word : Option ℕ) (dead : States) (p q : Position) (k : ℕ) → Tried ops final_word dead p k
    → Takes ops p k q → Has dead q → Tried ops final_word dead p (k + 1)
dead_more ops final_word dead p q k tried takes has all =
    below_more (λ i. ByTaking ops final_word p i → ⊥) k (tried all) (λ taking. all q has (taking.3 q takes))

-- none from a place up to another can come next, since each starts too late
abbrev pub AreLate : List Operation → Position → ℕ → ℕ → Type 0
AreLate ops p k m = (i : ℕ) → k ≤ i → i < m → (at ops p.first).end < (at ops i).start

pub are_late : (ops : List Operation) (p : Position) (k m : ℕ) (op : Operation) → p.first < length ops → op ≡ get_or ops p.first op
    → ((i : ℕ) → k ≤ i → i < m → (get_or ops p.first op).end < (at ops i).start) → AreLate ops p k m
are_late ops p k m op below is late =
    subst (λ (o : Operation). (i : ℕ) → k ≤ i → i < m → o.end < (at ops i).start) (sym is ∙ get_or_read ops p.first op below is nothing) late

pub not_late : (ops : List Operation) (p : Position) (k m i : ℕ) → AreLate ops p k m → k ≤ i → i < m → CanCome ops p i → ⊥
not_late ops p k m i late from before comes =
    let starts : (at ops i).start ≤ (at ops p.first).end = comes.1 in
    let ends : (at ops p.first).end < (at ops i).start = late i from before in
    omega (arith, starts, ends)

pub late_more : (ops : List Operation) (final_word : Option ℕ) (dead : States) (p : Position) (k m : ℕ) → Tried ops final_word dead p k → AreLate ops p k m
    → Tried ops final_word dead p m
late_more ops final_word dead p k m tried late all i before taking = elim (cases_lt i k) [
  | inl earlier ↦ tried all i earlier taking
  | inr from ↦ not_late ops p k m i late from before taking.0
]

-- all that can come next were tried, and the first cannot be left out
pub tried_all : (ops : List Operation) (final_word : Option ℕ) (dead : States) (p : Position) (k : ℕ) → AreSorted ops → IsReady (length ops) p → p.first < length ops
    → Tried ops final_word dead p k → ((i : ℕ) → k ≤ i → i < length ops → (at ops p.first).end < (at ops i).start)
    → (AllDead ops final_word dead → ByDropping ops final_word p → ⊥) → AllDead ops final_word dead → IsDead ops final_word p
tried_all ops final_word dead p k sorted ready below tried late dropped all (x, c) = elim (goes_on ops final_word p x sorted ready below c) [
  | inl (i, taking) ↦ elim (cases_lt i k) [
    | inl before ↦ tried all i before taking
    | inr after ↦
        let is = left_is (length ops) p i taking.0.0 in
        let starts : (at ops i).start ≤ (at ops p.first).end = taking.0.1 in
        let ends : (at ops p.first).end < (at ops i).start = late i after is.0 in
        absurd (omega (arith, starts, ends))
  ]
  | inr dropping ↦ dropped all dropping
]

-- where an operation that changes nothing leads to a state of the set
pub idle_dead : (ops : List Operation) (final_word : Option ℕ) (dead : States) (p q : Position) (i : ℕ) → p.word < 2 ^ 64 → CanCome ops p i → IsIdle (at ops i) → Takes ops p i q
    → Has dead q → AllDead ops final_word dead → IsDead ops final_word p
idle_dead ops final_word dead p q i below comes idle takes has all ends = all q has (from_idle ops final_word p q i below comes idle takes ends)

-- where an operation by which an order goes on, if any does, leads to a state of the set
pub first_dead : (ops : List Operation) (final_word : Option ℕ) (dead : States) (p q : Position) (i : ℕ) → GoesFirst ops p i → Takes ops p i q → Has dead q
    → AllDead ops final_word dead → IsDead ops final_word p
first_dead ops final_word dead p q i first takes has all ends = let taking = first final_word ends in all q has (taking.3 q takes)

-- and where it does not fit
pub first_refused : (ops : List Operation) (final_word : Option ℕ) (p : Position) (i : ℕ) → GoesFirst ops p i
    → (CanCome ops p i → Fits (at ops i) p.word → ⊥) → IsDead ops final_word p
first_refused ops final_word p i first refused ends = let taking = first final_word ends in refused taking.0 taking.1

-- an operation where an order goes on by one before it too, which was tried
pub equal_more : (ops : List Operation) (final_word : Option ℕ) (dead : States) (p : Position) (k : ℕ) → AreSorted ops → Tried ops final_word dead p k
    → HasEqualBefore ops p k → Tried ops final_word dead p (k + 1)
equal_more ops final_word dead p k sorted tried (i, before, equal, comes) all =
    below_more (λ j. ByTaking ops final_word p j → ⊥) k (tried all) (λ taking. tried all i before (by_equal ops final_word p k i sorted (omega (arith, before)) equal comes taking))
