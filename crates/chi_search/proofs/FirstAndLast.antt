-- the words that can follow, and the orders, from the first states, and from those in which none is left
use Rattle.std.proofs.Common.{◌≡◌, ℕ, ◌≤◌, ◌↔◌, List, [], length, None, Some, refl, sym, subst}
use Rattle.std.specs.List.{Contains}
use Rattle.chi_trace.specs.declared.operation.Operation.{Operation}
use Rattle.chi_trace.specs.Granules.{Finishes}
use Rattle.chi_search.specs.declared.states.States.{States}
use Rattle.chi_search.specs.declared.words.Words.{Words}
use Rattle.chi_search.specs.declared.words.Words.TheVariants.{Each, Unknown}
use Rattle.chi_search.specs.Found.{IfWords}
use Rattle.chi_search.specs.Frontiers.{AreEnds}
use Rattle.chi_search.specs.Layers.{AreReady, SomeEnds, SomeLeads}
use Rattle.chi_search.specs.Positions.{IsReady, Position, is_left, start}
use Rattle.chi_search.specs.StateSets.{Has, positions}
use Rattle.chi_search.proofs.Moves.{at_end, ended}
use Rattle.chi_search.proofs.Start.{at_start, from_start, ready_at_start}

-- the set has the first state of each word
abbrev pub AreFirst : States → List ℕ → Type 0
AreFirst layer words = (p : Position) → Has layer p ↔ ((w : ℕ) × Contains words w × (p ≡ start w))

pub first_ready : (ops : List Operation) (words : List ℕ) (layer : States) → AreFirst layer words → AreReady ops layer
first_ready ops words layer first p has = let from = (first p).0 has in subst (IsReady (length ops)) (sym from.2) (ready_at_start (length ops) from.0)

pub first_leads : (ops : List Operation) (words : List ℕ) (layer : States) → AreFirst layer words → (v : ℕ) → SomeEnds ops layer v ↔ SomeLeads ops words v
first_leads ops words layer first v = (forth, back)
  where
    forth : SomeEnds ops layer v → SomeLeads ops words v
    forth (p, has, (x, c)) =
        let from = (first p).0 has in
        let c_start = subst (λ (q : Position). Finishes ops (is_left (length ops) q) q.word (Some v) x) from.2 c in
        (from.0, from.1, (x, from_start ops from.0 (Some v) x c_start))

    back : SomeLeads ops words v → SomeEnds ops layer v
    back (w, has, (x, c)) = (start w, (first (start w)).1 (w, has, refl), (x, at_start ops w (Some v) x c))

pub first_orders : (ops : List Operation) (words : List ℕ) (layer : States) → AreFirst layer words → AreEnds ops words (positions layer) ops
first_orders ops words layer first p has x c =
    let of = (first p).0 has in
    record {
      from = of.0;
      is_there = of.1;
      whole = x;
      finishes = from_start ops of.0 None x (subst (λ (q : Position). Finishes ops (is_left (length ops) q) q.word None x) of.2 c);
      earlier = [];
      parts = refl;
    }

-- one layer more
pub chained : (A B C : Type 0) → A ↔ B → B ↔ C → A ↔ C
chained A B C first second = (λ a. second.0 (first.0 a), λ c. first.1 (second.1 c))

-- where none is left the words are those of the states
pub last_leads : (ops : List Operation) (Leading : ℕ → Type 0) (each : List ℕ) (layer : States) → ((p : Position) → Has layer p → length ops ≤ p.first)
    → ((w : ℕ) → Contains each w ↔ ((p : Position) × Has layer p × (p.word ≡ w))) → ((v : ℕ) → SomeEnds ops layer v ↔ Leading v)
    → (v : ℕ) → Contains each v ↔ Leading v
last_leads ops Leading each layer past are leads v = (forth, back)
  where
    forth : Contains each v → Leading v
    forth has = let of = (are v).0 has in (leads v).0 (of.0, of.1, ([], ended ops (Some v) of.0 (past of.0 of.1) of.2))

    back : Leading v → Contains each v
    back leading = at_last ((leads v).1 leading)
      where
        at_last : SomeEnds ops layer v → Contains each v
        at_last (p, has, (x, c)) = (are v).1 (p, has, at_end ops (Some v) p x (past p has) c)

-- words of which the one is true, where the other is too
pub words_lead : (Ending Leading : ℕ → Type 0) → ((v : ℕ) → Ending v ↔ Leading v) → (found : Words) → IfWords found (λ each. (v : ℕ) → Contains each v ↔ Ending v)
    → IfWords found (λ each. (v : ℕ) → Contains each v ↔ Leading v)
words_lead Ending Leading same Unknown are = tt
words_lead Ending Leading same (Each each) are = λ v. chained (Contains each.items v) (Ending v) (Leading v) (are v) (same v)
