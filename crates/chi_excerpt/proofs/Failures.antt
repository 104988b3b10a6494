-- the places that a failure names are places of the trace
use Rattle.std.proofs.Common.{◌≡◌, ℕ, ◌<◌, ◌==◌, Bool, true, false, cond, List, [], ◌∷◌, ◌++◌, All, length, get_or, ltb-true, refl, ap, ◌∙◌, append_assoc}
use Rattle.std.proofs.lemmas.List.Elements.{All-cons, All-nil}
use Rattle.std.proofs.lemmas.Bool.{and_parts}
use Rattle.chi_trace.specs.declared.operation.Operation.{Operation}
use Rattle.std.specs.List.{filter}
use Rattle.chi_trace.specs.Explains.{at, is_place}
use Rattle.chi_trace.specs.Granules.{granule_of, is_of}
use Rattle.chi_trace.specs.Traces.{TraceValue}
use Rattle.chi_reading.specs.TraceText.{RecordedValue}
use Rattle.chi_excerpt.specs.Failures.{order_in}

-- an operation of a granule is one of the trace
pub place_of : (ops : List Operation) (g i : ℕ) → is_of ops g i ≡ true → i < length ops
place_of ops g i is =
    let parts = and_parts (is_place ops i) (granule_of (at ops i) == g) is in
    ltb-true i (length ops) parts.0

pub granule_places : (t : TraceValue) (g : ℕ) (places : List ℕ) → All (λ i. is_of t.operations g i ≡ true) places → All (λ i. i < length t.operations) places
granule_places t g places all = λ k d below. place_of t.operations g (get_or places k d) (all k d below)

-- a filter keeps what passes its test
all_kept : (p : ℕ → Bool) (xs : List ℕ) → All (λ i. p i ≡ true) (filter p xs)
all_kept p [] = All-nil (λ i. p i ≡ true)
all_kept p (x ∷ xs) = by_test (p x) refl (all_kept p xs)
  where
    by_test : (b : Bool) → p x ≡ b → All (λ i. p i ≡ true) (filter p xs) → All (λ i. p i ≡ true) (cond b (x ∷ filter p xs) (filter p xs))
    by_test true is rest = All-cons (λ i. p i ≡ true) x (filter p xs) is rest
    by_test false is rest = rest

-- what an order has of a granule are operations of the trace
pub order_places : (r : RecordedValue) (g : ℕ) (order : List ℕ) → All (λ i. i < length r.trace.operations) (order_in r g order)
order_places r g order = granule_places r.trace g (order_in r g order) (all_kept (is_of r.trace.operations g) order)

-- a text of three parts
pub text_of : (start one two three s t u : List ℕ) → start ≡ [] → one ≡ start ++ s → two ≡ one ++ t → three ≡ two ++ u → three ≡ s ++ (t ++ u)
text_of start one two three s t u none first second third =
    third ∙ (ap (λ l. l ++ u) (second ∙ ap (λ l. l ++ t) (first ∙ ap (λ l. l ++ s) none)) ∙ append_assoc s t u)
