-- positions to which moves lead from those of a set
use Rattle.std.proofs.Common.{◌≡◌, ℕ, ◌^◌, ◌<◌, List, [], ◌∷◌, ◌++◌, length, length-append, map, Option, None, Some, refl, sym, ap, subst, ◌∙◌, arith, inl, inr}
use Rattle.std.proofs.lemmas.List.{append_assoc, map-append}
use Rattle.chi_trace.specs.declared.operation.Operation.{Operation}
use Rattle.chi_trace.specs.Explains.{at}
use Rattle.chi_search.specs.declared.path.Step.{Step}
use Rattle.chi_search.specs.declared.state.State.{State}
use Rattle.chi_search.specs.declared.states.States.{States}
use Rattle.chi_search.specs.Frontiers.{AreEnds}
use Rattle.chi_search.specs.Moves.{CanCome, Drops, Takes}
use Rattle.chi_search.specs.Paths.{AreReached, IsReached, Moves, Walks, taken}
use Rattle.chi_search.specs.Positions.{IsReady, Position, position_of}
use Rattle.chi_search.specs.Searchable.{AreSorted}
use Rattle.chi_search.specs.StateSets.{positions}
use Rattle.chi_search.proofs.Following.{comes_on, drops_on, ready_on, takes_on}
use Rattle.chi_search.proofs.Layers.{IsAdded, none_has}
use Rattle.chi_search.proofs.Paths.{walks_end, walks_on}
use Rattle.chi_search.proofs.Settling.{left_is}

-- each of the set itself is reached
pub reached_first : (ops : List Operation) (from : States) → AreReached ops from from
unfolding Walks
reached_first ops from p has = record { start = p; has = has; path = []; walks = refl }

pub reached_none : (ops : List Operation) (from states : States) → positions states ≡ [] → AreReached ops from states
reached_none ops from states none p has = absurd (none_has states p none has)

-- one state more
pub reached_more : (ops : List Operation) (from new old : States) (p : Position) → IsAdded new old p → IsReached ops from p → AreReached ops from old → AreReached ops from new
reached_more ops from new old p added reached all q has = elim ((added q).0 has) [
  | inl before ↦ all q before
  | inr same ↦ subst (IsReached ops from) (sym same) reached
]

-- one move more
reached_by : (ops : List Operation) (from : States) (s : State) (op : Option ℕ) (q : Position) → IsReached ops from (position_of s) → Moves ops (position_of s) op q
    → IsReached ops from q
reached_by ops from s op q reached moves = record {
  start = reached.start;
  has = reached.has;
  path = reached.path ++ step ∷ [];
  walks = walks_on ops reached.start q reached.path step reached.walks moves;
}
  where
    step : Step
    step = record { from = s; op = op; tried = 0 }

pub reached_taken : (ops : List Operation) (from : States) (s : State) (i : ℕ) (q : Position) → IsReady (length ops) (position_of s) → CanCome ops (position_of s) i
    → Takes ops (position_of s) i q → q.word < 2 ^ 64 → IsReached ops from (position_of s) → IsReached ops from q
unfolding Moves
reached_taken ops from s i q ready comes takes below reached = reached_by ops from s (Some i) q reached (ready, comes, takes, below)

pub reached_dropped : (ops : List Operation) (from : States) (s : State) (q : Position) → IsReady (length ops) (position_of s) → s.first < length ops
    → Drops ops (position_of s) q → IsReached ops from (position_of s) → IsReached ops from q
unfolding Moves
reached_dropped ops from s q ready below drops reached = reached_by ops from s None q reached (ready, below, drops)

-- a walk is one once other operations follow
moves_on : (ops more : List Operation) (p q : Position) (op : Option ℕ) → Moves ops p op q → Moves (ops ++ more) p op q
unfolding Moves
moves_on ops more p q None moves = (ready_on ops more p moves.0, further, drops_on ops more p q moves.1 moves.2)
  where
    further : p.first < length (ops ++ more)
    further = omega (arith, moves.1, length-append ops more)
moves_on ops more p q (Some i) moves =
    let is = left_is (length ops) p i moves.1.0 in
    let first : p.first < length ops = omega (arith, is.0, is.1) in
    (ready_on ops more p moves.0, comes_on ops more p i first moves.1, takes_on ops more p q i is.0 moves.2, moves.3)

walks_further : (ops more : List Operation) (p q : Position) (path : List Step) → Walks ops p path q → Walks (ops ++ more) p path q
unfolding Walks
walks_further ops more p q [] walks = walks
walks_further ops more p q (step ∷ path) walks =
    (walks.0, (walks.1.0, moves_on ops more (position_of step.from) walks.1.0 step.op walks.1.1, walks_further ops more walks.1.0 q path walks.1.2))

-- an order that goes on from one of the positions is how one ends that goes on from one of the set
pub ends_reached : (told : List Operation) (words : List ℕ) (ops more : List Operation) (from last : States) → AreSorted (ops ++ more) → AreReached ops from last
    → AreEnds told words (positions from) (ops ++ more) → AreEnds told words (positions last) (ops ++ more)
ends_reached told words ops more from last sorted reached ends p has x c =
    let r = reached p has in
    let first = map (at (ops ++ more)) (taken r.path) in
    let rest = map (at (ops ++ more)) x in
    let of = ends r.start r.has (taken r.path ++ x) (walks_end (ops ++ more) None r.start p r.path x sorted (walks_further ops more r.start p r.path r.walks) c) in
    record {
      from = of.from;
      is_there = of.is_there;
      whole = of.whole;
      finishes = of.finishes;
      earlier = of.earlier ++ first;
      parts = of.parts ∙ ap (λ l. of.earlier ++ l) (map-append (at (ops ++ more)) (taken r.path) x) ∙ sym (append_assoc of.earlier first rest);
    }
