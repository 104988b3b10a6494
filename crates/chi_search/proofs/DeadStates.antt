-- sets of states of which each is dead, one after the other
use Rattle.std.proofs.Common.{◌≡◌, ℕ, ◌+◌, ◌≤◌, ◌⊎◌, ◌↔◌, All, List, [], length, take, Option, Some, sym, ap, subst, arith, inl, inr}
use Rattle.std.specs.Prelude.{slice_get}
use Rattle.std.proofs.lemmas.List.{take_all}
use Rattle.std.proofs.lemmas.List.Elements.{All-contains, All-push}
use Rattle.chi_trace.specs.declared.operation.Operation.{Operation}
use Rattle.chi_search.specs.declared.states.States.{States}
use Rattle.chi_search.specs.Paths.{AllDead, IsDead}
use Rattle.chi_search.specs.Positions.{Position}
use Rattle.chi_search.specs.StateSets.{Has, positions}
use Rattle.chi_search.proofs.Elements.{read_more}

-- the empty set, and one state more
pub none_of : (P : Position → Type 0) (states : States) → positions states ≡ [] → (p : Position) → Has states p → P p
none_of P states none p (x, below, same) = absurd (omega (arith, below, ap length none))

pub more_of : (P : Position → Type 0) (old new : States) (s : Position) → ((p : Position) → Has new p ↔ (Has old p ⊎ (p ≡ s)))
    → ((p : Position) → Has old p → P p) → P s → (p : Position) → Has new p → P p
more_of P old new s more all one p has = elim ((more p).0 has) [
  | inl before ↦ all p before
  | inr same ↦ subst P (sym same) one
]

pub none_dead : (ops : List Operation) (final_word : Option ℕ) (states : States) → positions states ≡ [] → AllDead ops final_word states
none_dead ops final_word = none_of (IsDead ops final_word)

pub more_dead : (ops : List Operation) (final_word : Option ℕ) (old new : States) (s : Position) → ((p : Position) → Has new p ↔ (Has old p ⊎ (p ≡ s)))
    → AllDead ops final_word old → IsDead ops final_word s → AllDead ops final_word new
more_dead ops final_word = more_of (IsDead ops final_word)

-- the states before a place of a set, and the one there
abbrev pub AreDeadTo : List Operation → Option ℕ → States → ℕ → Type 0
AreDeadTo ops final_word states k = All (IsDead ops final_word) (take k (positions states))

pub dead_here : (ops : List Operation) (final_word : Option ℕ) (states : States) (k : ℕ) (p : Position) → slice_get (positions states) k ≡ Some p
    → AreDeadTo ops final_word states k → IsDead ops final_word p → AreDeadTo ops final_word states (k + 1)
dead_here ops final_word states k p is before dead =
    subst (All (IsDead ops final_word)) (sym (read_more (positions states) k p is)) (All-push (IsDead ops final_word) (take k (positions states)) p before dead)

pub dead_to_end : (ops : List Operation) (final_word : Option ℕ) (states : States) (k : ℕ) → length (positions states) ≤ k → AreDeadTo ops final_word states k
    → AllDead ops final_word states
dead_to_end ops final_word states k whole dead p has =
    All-contains (IsDead ops final_word) (positions states) p (subst (All (IsDead ops final_word)) (take_all k (positions states) whole) dead) has
