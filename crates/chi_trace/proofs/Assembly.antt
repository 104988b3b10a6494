-- an order of the whole trace, from the words of each granule's part
use Rattle.std.proofs.Common.{◌≡◌, ℕ, ◌==◌, ◌&&◌, Bool, true, false, cond, List, [], ◌∷◌, filter, refl, sym, subst, eqb-true, eq-eqb, true≢false}
use Rattle.std.proofs.lemmas.Bool.{and_from}
use Rattle.std.proofs.lemmas.List.Elements.{All-head, All-tail}
use Rattle.chi_fields.specs.Access.{IsLawful}
use Rattle.chi_lanes.specs.After.{after}
use Rattle.chi_lanes.specs.Memory.{Memory, IsMemory}
use Rattle.chi_lanes.proofs.AfterLemmas.{IsMemory-after}
use Rattle.chi_trace.specs.declared.operation.Operation.{Operation}
use Rattle.chi_trace.specs.Explains.{Answers, IsTrace, at, is_place, memory_after, word_of}
use Rattle.chi_trace.specs.Granules.{Fits, Play, granule_of, is_of, last_word}
use Rattle.chi_trace.proofs.Orders.{ArePlaces, observed_at}
use Rattle.chi_trace.proofs.Projection.{project}
use Rattle.chi_trace.proofs.Steps.{answer_at, word_of-next, word_of-other, word_of-own}

-- each granule's part plays from its word
abbrev pub PartsPlay : List Operation → Memory → List ℕ → Type 0
PartsPlay trace m order = (g : ℕ) → Play trace (word_of m g) (filter (is_of trace g) order)

-- the first operation fits its granule's word
first_fits : (trace : List Operation) (i : ℕ) (order : List ℕ) (m : Memory) → is_place trace i ≡ true → PartsPlay trace m (i ∷ order)
    → Fits (at trace i) (word_of m (granule_of (at trace i)))
unfolding Play
first_fits trace i order m place plays = (subst (λ (b : Bool). Play trace (word_of m g) (cond b (i ∷ rest) rest)) own (plays g)).0
  where
    g : ℕ
    g = granule_of (at trace i)

    rest : List ℕ
    rest = filter (is_of trace g) order

    own : is_of trace g i ≡ true
    own = and_from (is_place trace i) (granule_of (at trace i) == g) place (eq-eqb g g refl)

-- the parts of the others play from the words that it leaves
rest_plays : (trace : List Operation) (i : ℕ) (order : List ℕ) (m : Memory) → IsMemory m → IsLawful (at trace i).access → is_place trace i ≡ true
    → PartsPlay trace m (i ∷ order) → PartsPlay trace (after (at trace i).access m) order
unfolding Play
rest_plays trace i order m is_m lawful place plays g = by_test (is_place trace i) place (granule_of (at trace i) == g) refl (plays g)
  where
    rest : List ℕ
    rest = filter (is_of trace g) order

    by_test : (b : Bool) → b ≡ true → (d : Bool) → (granule_of (at trace i) == g) ≡ d
        → Play trace (word_of m g) (cond (b && d) (i ∷ rest) rest) → Play trace (word_of (after (at trace i).access m) g) rest
    by_test true inside true here h =
        subst (λ (w : ℕ). Play trace w rest) (word_of-next (at trace i) m g is_m lawful (eqb-true (granule_of (at trace i)) g here)) h.2
    by_test true inside false here h = subst (λ (w : ℕ). Play trace w rest) (sym (word_of-other (at trace i) m g lawful here)) h
    by_test false inside d here h = absurd (true≢false (sym inside))

-- where each granule's part plays, the replies of the whole order are the memory's answers
pub assemble : (trace : List Operation) (order : List ℕ) (m : Memory) → IsTrace trace → IsMemory m → ArePlaces trace order → PartsPlay trace m order
    → Answers trace m order
unfolding Answers
assemble trace [] m is is_m places plays = tt
assemble trace (i ∷ order) m is is_m places plays =
    let place : is_place trace i ≡ true = All-head (λ j. is_place trace j ≡ true) i order places in
    let lawful : IsLawful (at trace i).access = (observed_at trace i is place).lawful in (
      answer_at (at trace i) m is_m lawful
          (subst (Fits (at trace i)) (word_of-own (at trace i) m (granule_of (at trace i)) refl) (first_fits trace i order m place plays)),
      assemble trace order (after (at trace i).access m) is (IsMemory-after (at trace i).access m is_m lawful)
          (All-tail (λ j. is_place trace j ≡ true) i order places) (rest_plays trace i order m is_m lawful place plays),
    )

-- and it leaves each granule the word that its part leaves
pub assembled_word : (trace : List Operation) (order : List ℕ) (m : Memory) → IsTrace trace → IsMemory m → ArePlaces trace order → PartsPlay trace m order
    → (g : ℕ) → word_of (memory_after trace m order) g ≡ last_word trace (word_of m g) (filter (is_of trace g) order)
assembled_word trace order m is is_m places plays g = (project trace g order m is is_m places (assemble trace order m is is_m places plays)).1
