-- what is found from the first state of one word
use Rattle.std.proofs.Common.{◌≡◌, ℕ, List, [], ◌∷◌, length, Option, refl, sym, subst, arith, inl, inr}
use Rattle.std.specs.List.{Contains}
use Rattle.std.proofs.lemmas.List.Elements.{Contains-push, Contains-push_cases}
use Rattle.chi_trace.specs.declared.operation.Operation.{Operation}
use Rattle.chi_trace.specs.Explains.{is_place}
use Rattle.chi_trace.specs.Granules.{Finishes}
use Rattle.chi_search.specs.declared.order.Found.{Found}
use Rattle.chi_search.specs.declared.order.Found.TheVariants.{Nothing, Order, Undecided}
use Rattle.chi_search.specs.declared.states.States.{States}
use Rattle.chi_search.specs.Found.{IfNothing, IfOrder}
use Rattle.chi_search.specs.Paths.{AllDead}
use Rattle.chi_search.specs.Positions.{Position, is_left, start}
use Rattle.chi_search.specs.StateSets.{Has}
use Rattle.chi_search.proofs.FirstAndLast.{AreFirst}
use Rattle.chi_search.proofs.Start.{at_start, from_start}

-- it is the only one
only : (w v : ℕ) → Contains (w ∷ []) v → w ≡ v
only w v has = elim (Contains-push_cases [] w v has) [
  | inl none ↦ absurd (omega (arith, none.1))
  | inr same ↦ same
]

-- an order of all, or none
pub order_from_one : (ops : List Operation) (w : ℕ) (layer : States) (final_word : Option ℕ) → AreFirst layer (w ∷ []) → (found : Found)
    → IfOrder found (λ x. (p : Position) × Has layer p × Finishes ops (is_left (length ops) p) p.word final_word x) → IfOrder found (Finishes ops (is_place ops) w final_word)
order_from_one ops w layer final_word first Nothing some = tt
order_from_one ops w layer final_word first Undecided some = tt
order_from_one ops w layer final_word first (Order places) (p, has, c) =
    let from = (first p).0 has in
    let c_start = subst (λ (q : Position). Finishes ops (is_left (length ops) q) q.word final_word places.items) from.2 c in
    subst (λ v. Finishes ops (is_place ops) v final_word places.items) (sym (only w from.0 from.1)) (from_start ops from.0 final_word places.items c_start)

pub none_from_one : (ops : List Operation) (w : ℕ) (layer : States) (final_word : Option ℕ) → AreFirst layer (w ∷ []) → (found : Found)
    → IfNothing found (AllDead ops final_word layer) → IfNothing found ((x : List ℕ) → Finishes ops (is_place ops) w final_word x → ⊥)
none_from_one ops w layer final_word first (Order places) none = tt
none_from_one ops w layer final_word first Undecided none = tt
none_from_one ops w layer final_word first Nothing dead = λ x c. dead (start w) ((first (start w)).1 (w, Contains-push [] w, refl)) (x, at_start ops w final_word x c)
