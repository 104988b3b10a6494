-- an order as a legal history of a home
use Rattle.std.proofs.Common.{◌≡◌, ℕ, true, List, [], ◌∷◌, refl}
use Rattle.std.proofs.lemmas.List.Elements.{All-head, All-tail}
use Rattle.chi_lanes.specs.After.{after, answer}
use Rattle.chi_lanes.specs.Memory.{Memory}
use Rattle.chi_history.specs.declared.entry.Entry.{Entry}
use Rattle.chi_history.specs.declared.opening.Opening.{Opening}
use Rattle.chi_history.specs.History.{IsLegalFrom, end_from}
use Rattle.chi_history.specs.HomeClauses.{entry}
use Rattle.chi_trace.specs.declared.operation.Operation.{Operation}
use Rattle.chi_trace.specs.Explains.{Answers, IsTrace, at, is_place, memory_after}
use Rattle.chi_trace.specs.TraceLaws.{AreEntries, CouldServe}
use Rattle.chi_trace.proofs.Orders.{ArePlaces, observed_at}

-- the operations in this order, each with the memory's answer
unfoldable pub history : List Operation → Memory → List ℕ → List Entry
history ts m [] = []
history ts m (i ∷ x) = entry (at ts i).src (at ts i).access (answer (at ts i).access m) ∷ history ts (after (at ts i).access m) x

pub is_legal : (o : Opening) (ts : List Operation) (m : Memory) (x : List ℕ) → IsTrace ts → CouldServe o ts → ArePlaces ts x → IsLegalFrom o m (history ts m x)
unfolding IsLegalFrom history
is_legal o ts m [] is could places = tt
is_legal o ts m (i ∷ x) is could places =
    let place : is_place ts i ≡ true = All-head (λ j. is_place ts j ≡ true) i x places in (
      record {
        requester = (could i place).0;
        inside = (could i place).1;
        answered = refl;
        lawful = (observed_at ts i is place).lawful;
      },
      is_legal o ts (after (at ts i).access m) x is could (All-tail (λ j. is_place ts j ≡ true) i x places),
    )

pub are_entries : (ts : List Operation) (m : Memory) (x : List ℕ) → Answers ts m x → AreEntries ts x (history ts m x)
unfolding Answers AreEntries history
are_entries ts m [] h = tt
are_entries ts m (i ∷ x) h = (refl, refl, h.0, are_entries ts (after (at ts i).access m) x h.1)

pub leaves_same : (ts : List Operation) (m : Memory) (x : List ℕ) → end_from m (history ts m x) ≡ memory_after ts m x
unfolding history end_from memory_after
leaves_same ts m [] = refl
leaves_same ts m (i ∷ x) = leaves_same ts (after (at ts i).access m) x
