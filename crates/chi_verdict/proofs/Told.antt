-- what is found of one granule's operations told by themselves, said of the trace
use Rattle.std.proofs.Common.{◌≡◌, ℕ, ◌<◌, ◌↔◌, List, [], ◌∷◌, All, Option, Some, get_or, length, map, slice_index, refl, sym, ap, subst, ◌∙◌, arith, ltb-true}
use Rattle.std.specs.List.{Contains}
use Rattle.std.proofs.lemmas.List.Elements.{All-cons, All-contains, All-nil, Contains-get_or}
use Rattle.chi_trace.specs.declared.operation.Operation.{Operation}
use Rattle.chi_trace.specs.AtPlaces.{PlacesExplain, at_places}
use Rattle.chi_trace.specs.Explains.{is_place}
use Rattle.chi_trace.specs.Granules.{ExplainsGranule, Finishes, is_of}
use Rattle.chi_trace.proofs.Places.{passes}
use Rattle.chi_search.specs.Layers.{SomeLeads}
use Rattle.chi_search.specs.declared.words.Words.{Words}
use Rattle.chi_search.specs.declared.words.Words.TheVariants.{Each, Unknown}
use Rattle.chi_search.specs.Found.{IfWords}
use Rattle.chi_verdict.specs.declared.grouping.Placed.{Placed}
use Rattle.chi_verdict.specs.Groups.{places_of}
use Rattle.chi_verdict.proofs.OneGranule.{HasEach, length_chosen}

-- an order of the chosen operations has only indices of their places
pub indices : (ops own : List Operation) (run : List Placed) (w : ℕ) (final_word : Option ℕ) (order : List ℕ) → own ≡ at_places ops (places_of run)
    → Finishes own (is_place own) w final_word order → All (λ k. k < length run) order
indices ops own run w final_word order is finishes n d below =
    let under = ltb-true (get_or order n d) (length own) (passes (is_place own) order finishes.once n d below) in
    let size : length own ≡ length run = ap length is ∙ length_chosen ops run in
    omega (arith, under, size)

-- and explains the granule, moved to the trace
pub told_order : PlacesExplain → (ops own : List Operation) (g : ℕ) (run : List Placed) (w : ℕ) (final_word : Option ℕ) (order : List ℕ)
    → own ≡ at_places ops (places_of run) → HasEach ops g run → Finishes own (is_place own) w final_word order
    → ExplainsGranule ops g w final_word (map (slice_index (places_of run)) order)
told_order law ops own g run w final_word order is each finishes =
    (law ops (is_of ops g) (places_of run) w final_word each).0 order (subst (λ o. Finishes o (is_place o) w final_word order) is finishes)

-- and each that explains the granule is one that was moved
pub told_back : PlacesExplain → (ops own : List Operation) (g : ℕ) (run : List Placed) (w : ℕ) (final_word : Option ℕ) (order : List ℕ)
    → own ≡ at_places ops (places_of run) → HasEach ops g run → ExplainsGranule ops g w final_word order
    → (moved : List ℕ) × Finishes own (is_place own) w final_word moved
told_back law ops own g run w final_word order is each explains =
    let back = (law ops (is_of ops g) (places_of run) w final_word each).1 order explains in
    (back.0, subst (λ o. Finishes o (is_place o) w final_word back.0) (sym is) back.1)

-- the words to which an order leads are those that one of the granule leaves
pub told_words : PlacesExplain → (ops own : List Operation) (g : ℕ) (run : List Placed) (w v : ℕ) → own ≡ at_places ops (places_of run) → HasEach ops g run
    → SomeLeads own (w ∷ []) v ↔ ((order : List ℕ) × ExplainsGranule ops g w (Some v) order)
told_words law ops own g run w v is each = (forth, back)
  where
    forth : SomeLeads own (w ∷ []) v → (order : List ℕ) × ExplainsGranule ops g w (Some v) order
    forth (u, one, led) =
        let first = All-contains (λ x. x ≡ w) (w ∷ []) u (All-cons (λ x. x ≡ w) w [] refl (All-nil (λ x. x ≡ w))) one in (
          map (slice_index (places_of run)) led.0,
          told_order law ops own g run w (Some v) led.0 is each (subst (λ x. Finishes own (is_place own) x (Some v) led.0) first led.1),
        )

    back : ((order : List ℕ) × ExplainsGranule ops g w (Some v) order) → SomeLeads own (w ∷ []) v
    back (order, explains) =
        (w, Contains-get_or (w ∷ []) 0 0 (omega arith), told_back law ops own g run w (Some v) order is each explains)

-- words that are said in other terms
pub said : (found : Words) (P Q : ℕ → Type 0) → ((v : ℕ) → P v ↔ Q v) → IfWords found (λ each. (v : ℕ) → Contains each v ↔ P v)
    → IfWords found (λ each. (v : ℕ) → Contains each v ↔ Q v)
said (Each words) P Q same h = λ v. (λ has. (same v).0 ((h v).0 has), λ q. (h v).1 ((same v).1 q))
said Unknown P Q same h = h
